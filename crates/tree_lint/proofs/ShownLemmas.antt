-- The output and the messages for one module.
use Rattle.std.proofs.Common.{◌≡◌, ◌∙◌, ◌<◌, ◌+◌, ◌++◌, ◌∷◌, [], ℕ, Bool, true, false, Global, List, Option, ap, append-nil, arith, drop, eqb-true, flat_map, get_or, inl, inr, length, map, refl, subst, sym}
use Rattle.std.specs.Prelude.{◌==◌, ◌&&◌, None, Ok, Err, String, if◌then◌else◌, not, string_bytes}
use Rattle.tree_lint.specs.CommentFaults.{fault_view}
use Rattle.tree_lint.specs.declared.comment_fault.CommentFault as code
use Rattle.command_line.specs.Rows.{TookBy, Writer}
use Rattle.command_line.proofs.WriterLemmas.{appends_nothing}
use Rattle.command_line.proofs.ListCutLemmas.{from_here}
use Rattle.file_tree.specs.Files.{Faults, Files, Name}
use Rattle.file_tree.specs.Quotes.{shown_name}
use Rattle.lint_forms.specs.Forms.{module_text}
use Rattle.lint_forms.specs.declared.kind.Form.{Form}
use Rattle.lint_forms.specs.declared.kind.Form.TheVariants.{Json, Sarif, Checkstyle, Junit, Gitlab, Github}
use Rattle.module_find.specs.declared.module.Module.{Module}
use Rattle.tf_rules.specs.declared.issue.Issue.{Issue}
use Rattle.tfrules_command.specs.Line.{max_files}
use Rattle.tree_lint.specs.Inner.Showing.{HasOrNoMemory, Shows, is_nothing, refused_end}
use Rattle.module_find.specs.KeptRefusals.{KeepsAll}
use Rattle.tree_lint.specs.Parted.{after_empty_line}
use Rattle.module_find.specs.Refusals.{Refusal, refusal_line}
use Rattle.tree_lint.specs.Runs.{comment_line, comment_remark, has_output, issue_remark, linted_output, remarks_by, report_of, verdict_message, verdict_output, verdict_status}
use Rattle.module_find.specs.Modules.{names_in, bytes_of_name}
use Rattle.tree_lint.specs.Verdicts.{CanBeRead, HaveFound, IsVerdict, Linted, StopsAt, Verdict, no_memory, stop_refusal, too_many}
use Rattle.tree_lint.specs.declared.counts.Ended.{Ended}
use Rattle.module_find.specs.declared.kept.KeptRefusals.{KeptRefusals}
use Rattle.module_find.specs.declared.policy.Policy.{Policy}
use Rattle.tree_lint.specs.declared.run.ModuleTask.{ModuleTask}
use Rattle.tree_lint.specs.declared.stop.Stop.{Stop}
use Rattle.tree_lint.specs.declared.written.Terminals.{Terminals}
use Rattle.module_find.proofs.KeptLemmas.{keeps_none}
use Rattle.tree_lint.proofs.PartedLemmas.{nothing_parted}

pub shows_as : (task : ModuleTask) (m : Module) (P Q : Verdict → Type 0) (out err : Writer) (before after : KeptRefusals) (ended : Ended) → ((v : Verdict) → P v → Q v) → Shows task m P out err before after ended → Shows task m Q out err before after ended
shows_as task m P Q out err before after ended h s = record { verdict = s.verdict; holds = h s.verdict s.holds; output = s.output; message = s.message; kept = s.kept; exit = s.exit; issues = s.issues; shown = s.shown }

-- a writer that isn't called took an empty text
pub untouched : (f : Bool) (a : Option (List ℕ)) → f ≡ false → TookBy f a a []
untouched false a e = appends_nothing a
untouched true a e = absurd (cc)

module _ (task : ModuleTask) (m : Module) (out err : Writer) (before after : KeptRefusals) (ended : Ended) where
  refused_all : (refusals : List Refusal) (text : List ℕ) → out.failed ≡ false → out.after ≡ out.before → TookBy err.failed err.before err.after text → text ≡ flat_map refusal_line refusals → KeepsAll before after refusals → ended ≡ refused_end
      → Shows task m (λ v. v ≡ Err refusals) out err before after ended
  refused_all refusals text good same took is keeps e = record {
    verdict = Err refusals;
    holds = refl;
    output = subst (λ a. TookBy out.failed out.before a []) (sym same) (untouched out.failed out.before good);
    message = subst (TookBy err.failed err.before err.after) is took;
    kept = keeps;
    exit = ap (λ (x : Ended). x.status) e;
    issues = ap (λ (x : Ended). x.issues) e;
    shown = ap (λ (x : Ended). x.is_shown) e;
  }

  pub refused_one : (r wanted : Refusal) → r ≡ wanted → out.failed ≡ false → out.after ≡ out.before → TookBy err.failed err.before err.after (refusal_line r) → KeepsAll before after (r ∷ []) → ended ≡ refused_end
      → Shows task m (λ v. v ≡ Err (wanted ∷ [])) out err before after ended
  refused_one r wanted e good same took keeps is =
      refused_all (wanted ∷ []) (refusal_line r) good same took (ap refusal_line e ∙ sym (append-nil (refusal_line wanted))) (subst (λ q. KeepsAll before after (q ∷ [])) e keeps) is

  pub refused_untold : out.failed ≡ false → out.after ≡ out.before → err.failed ≡ false → err.after ≡ err.before → KeepsAll before after [] → ended ≡ refused_end → Shows task m (λ v. v ≡ Err []) out err before after ended
  refused_untold good same fine still keeps is = refused_all [] [] good same (subst (λ a. TookBy err.failed err.before a []) (sym still) (untouched err.failed err.before fine)) refl keeps is

  pub shown : (linted : Linted) (text said : List ℕ) → TookBy out.failed out.before out.after text → text ≡ verdict_output task.manner task.is_after m (Ok linted) → TookBy err.failed err.before err.after said → said ≡ verdict_message task.manner.terminals.err m (Ok linted)
      → KeepsAll before after [] → ended.status ≡ verdict_status task.policy (Ok linted) → ended.issues ≡ length linted.issues → ended.is_shown ≡ has_output task.manner.form linted → Shows task m (HasOrNoMemory m linted) out err before after ended
  shown linted text said took is told says keeps exit count shows = record {
    verdict = Ok linted;
    holds = inl refl;
    output = subst (TookBy out.failed out.before out.after) is took;
    message = subst (TookBy err.failed err.before err.after) says told;
    kept = keeps;
    exit = exit;
    issues = count;
    shown = shows;
  }

pub or_memory : (m : Module) (linted : Linted) (v : Verdict) → v ≡ Err (no_memory m ∷ []) → HasOrNoMemory m linted v
or_memory m linted v e = inr e

-- ---- comments

flat_of : {A B : Type 0} (f : A → B) (g : B → List ℕ) (xs : List A) → flat_map (λ x. g (f x)) xs ≡ flat_map g (map f xs)
flat_of f g [] = refl
flat_of f g (x ∷ xs) = ap (λ t. g (f x) ++ t) (flat_of f g xs)

pub comments_told : (shows : Bool) (m : Module) (linted : Linted) (names : List Name) (faults : List code.CommentFault) → names ≡ names_in m → linted.comments ≡ map fault_view faults
    → flat_map (λ f. comment_line shows names linted.texts (fault_view f)) faults ≡ verdict_message shows m (Ok linted)
comments_told shows m linted names faults same e = flat_of fault_view (comment_line shows names linted.texts) faults ∙ (λ i. flat_map (comment_line shows (same i) linted.texts) (sym e i))

-- the text for one comment and for those after it
pub comment_here : (said : code.CommentFault → List ℕ) (faults : List code.CommentFault) (i : ℕ) (f : code.CommentFault) → i < length faults → f ≡ get_or faults i f → flat_map said (drop i faults) ≡ said f ++ flat_map said (drop (i + 1) faults)
comment_here said faults i f lt is = ap (flat_map said) (from_here faults i f lt is)

pub remarks_told : (names : List Name) (issues : List Issue) (faults : List code.CommentFault) (texts : List (List ℕ))
    → map (issue_remark names) issues ++ map (λ f. comment_remark names (fault_view f)) faults ≡ remarks_by names (record { issues = issues; comments = map fault_view faults; texts = texts })
remarks_told names issues faults texts = ap (λ l. map (issue_remark names) issues ++ l) (by faults)
  where
    by : (fs : List code.CommentFault) → map (λ f. comment_remark names (fault_view f)) fs ≡ map (comment_remark names) (map fault_view fs)
    by [] = refl
    by (f ∷ fs) = ap (λ l. comment_remark names (fault_view f) ∷ l) (by fs)

-- ---- nothing was found

and_true : (a b : Bool) → (a && b) ≡ true → (a ≡ true) × (b ≡ true)
and_true true true e = (refl, refl)
and_true true false e = absurd (cc)
and_true false b e = absurd (cc)

no_more : {A : Type 0} (xs : List A) → (length xs == 0) ≡ true → xs ≡ []
no_more [] e = refl
no_more (x ∷ xs) e = absurd (omega (arith, eqb-true (length (x ∷ xs)) 0 e))

abbrev none : List (List ℕ) → Linted
none texts = record { issues = []; comments = []; texts = texts }

pub is_none : (linted : Linted) (e : Bool) → e ≡ is_nothing linted → e ≡ true → linted ≡ none linted.texts
is_none linted e is f = let both = and_true (length linted.issues == 0) (length linted.comments == 0) (sym is ∙ f) in λ i. record { issues = no_more linted.issues both.0 i; comments = no_more linted.comments both.1 i; texts = linted.texts }

-- ---- the names of a report

map_twice : {A B C : Type 0} (f : B → C) (h : A → B) (xs : List A) → map (λ x. f (h x)) xs ≡ map f (map h xs)
map_twice f h [] = refl
map_twice f h (x ∷ xs) = ap (λ l. f (h x) ∷ l) (map_twice f h xs)

pub names_as : (shows : Bool) (m : Module) (is_after : Bool) (linted : Linted) (names : List (List ℕ)) (files : List (String Global)) → names ≡ map (λ name. shown_name (string_bytes name)) files → files ≡ m.files.items
    → after_empty_line is_after (report_of shows names linted) ≡ linted_output None shows is_after m linted
names_as shows m is_after linted names files e same = ap (λ l. after_empty_line is_after (report_of shows l linted)) (e ∙ map_twice shown_name string_bytes files ∙ ap (λ l. map shown_name (map string_bytes l)) same)

-- in a form, nothing is written if there is no remark
nothing_in_form : (form : Form) (is_after : Bool) → module_text form is_after [] ≡ []
nothing_in_form Json is_after = refl
nothing_in_form Sarif is_after = refl
nothing_in_form Checkstyle is_after = refl
nothing_in_form Junit is_after = refl
nothing_in_form Gitlab is_after = refl
nothing_in_form Github is_after = refl

none_output : (form : Option Form) (shows : Bool) (m : Module) (is_after : Bool) (texts : List (List ℕ)) → [] ≡ linted_output form shows is_after m (none texts)
none_output Option.None true m is_after texts = sym (nothing_parted is_after)
none_output Option.None false m is_after texts = sym (nothing_parted is_after)
none_output (Option.Some form) shows m is_after texts = sym (nothing_in_form form is_after)

none_status : (policy : Policy) (texts : List (List ℕ)) → 0 ≡ verdict_status policy (Ok (none texts))
none_status policy texts = by policy.force
  where
    by : (force : Bool) → ◌≡◌ {A = ℕ} 0 (if not force && false then 2 else (if not force && false then 2 else 0))
    by true = refl
    by false = refl

none_shown : (form : Option Form) (texts : List (List ℕ)) → false ≡ has_output form (none texts)
none_shown Option.None texts = refl
none_shown (Option.Some form) texts = refl

pub shows_nothing : (task : ModuleTask) (m : Module) (out err : Writer) (before : KeptRefusals) (linted : Linted) → linted ≡ none linted.texts → out.failed ≡ false → out.after ≡ out.before → err.failed ≡ false → err.after ≡ err.before
    → Shows task m (HasOrNoMemory m linted) out err before before (record { status = 0; issues = 0; is_shown = false })
shows_nothing task m out err before linted e good same fine still = subst (λ l. Shows task m (HasOrNoMemory m l) out err before before (record { status = 0; issues = 0; is_shown = false })) (sym e)
    (shown task m out err before before (record { status = 0; issues = 0; is_shown = false }) (none linted.texts) [] [] (subst (λ a. TookBy out.failed out.before a []) (sym same) (untouched out.failed out.before good)) (none_output task.manner.form task.manner.terminals.out m task.is_after linted.texts)
    (subst (λ a. TookBy err.failed err.before a []) (sym still) (untouched err.failed err.before fine)) refl (keeps_none before) (none_status task.policy linted.texts) refl (none_shown task.manner.form linted.texts))

-- ---- the verdict

module _ (files : Files) (terminals : Terminals) (policy : Policy) (m : Module) (was is : Faults) where
  pub for_broken : m.is_whole ≡ false → is ≡ was → (v : Verdict) → v ≡ Err [] → IsVerdict files terminals policy m was is v
  for_broken broken w v h = subst (IsVerdict files terminals policy m was is) (sym h) (inl (broken, w, refl))

  pub for_number : m.is_whole ≡ true → max_files < length m.files.items → is ≡ was → (v : Verdict) → v ≡ Err (too_many m ∷ []) → IsVerdict files terminals policy m was is v
  for_number whole many w v h = subst (IsVerdict files terminals policy m was is) (sym h) (inr (inl (whole, many, w, refl)))

  pub for_memory : CanBeRead m → is ≡ was → (v : Verdict) → v ≡ Err (no_memory m ∷ []) → IsVerdict files terminals policy m was is v
  for_memory can w v h = subst (IsVerdict files terminals policy m was is) (sym h) (inr (inr (inr (can, w, refl))))

  pub for_file : CanBeRead m → (names : List Name) → names ≡ names_in m → (name : Name) (why : Stop) (shows : Bool) → shows ≡ terminals.err → StopsAt shows (bytes_of_name files) names was is name why → (v : Verdict) → v ≡ Err (stop_refusal name why ∷ []) → IsVerdict files terminals policy m was is v
  for_file can names same name why shows seen at v h = subst (IsVerdict files terminals policy m was is) (sym h) (inr (inr (inl (can, (name, why, subst (λ s. StopsAt s (bytes_of_name files) (names_in m) was is name why) seen (subst (λ l. StopsAt shows (bytes_of_name files) l was is name why) same at), refl)))))

  pub for_found : CanBeRead m → is ≡ was → (names : List Name) → names ≡ names_in m → (linted : Linted) → HaveFound (bytes_of_name files) terminals policy names linted → (v : Verdict) → HasOrNoMemory m linted v → IsVerdict files terminals policy m was is v
  for_found can w names same linted have v (inl e) = subst (IsVerdict files terminals policy m was is) (sym e) (can, w, subst (λ l. HaveFound (bytes_of_name files) terminals policy l linted) same have)
  for_found can w names same linted have v (inr e) = for_memory can w v e
