-- From the linted modules to the end of the run.
use Rattle.std.proofs.Common.{◌≡◌, ◌∙◌, ◌++◌, ℕ, [], Bool, true, false, List, Option, ap, append-nil, flat_map, inl, inr, map, refl, subst, sym}
use Rattle.std.specs.Prelude.{◌⊎◌, ◌||◌, IfOk, Result, Ok, Err, Some, if◌then◌else◌}
use Rattle.command_line.specs.Rows.{End, Program, Took, TookBy, Writer, write_failed}
use Rattle.file_tree.specs.Files.{Faults, Files, Name}
use Rattle.file_tree.specs.declared.walk.Found.{Found}
use Rattle.lint_forms.specs.Forms.{form_foot}
use Rattle.lint_forms.specs.Remarks.{said_by}
use Rattle.lint_forms.specs.declared.kind.Form.{Form}
use Rattle.lint_forms.specs.declared.remark.Remark as code
use Rattle.module_find.specs.declared.module.Module.{Module}
use Rattle.module_find.specs.Faults.{fault_lines, refusal_in}
use Rattle.module_find.specs.KeptRefusals.{KeepsAll, kept_remark}
use Rattle.module_find.specs.declared.kept.KeptRefusals.{KeptRefusals}
use Rattle.module_find.proofs.KeptLemmas.{keeps_more}
use Rattle.module_find.specs.Refusals.{tree_linter}
use Rattle.tree_lint.specs.Runs.{IsLintRun, worse_status}
use Rattle.tree_lint.specs.declared.counts.Counts.{Counts}
use Rattle.module_find.specs.declared.policy.Governed.{Governed}
use Rattle.tree_lint.specs.declared.run.RunEnd.{RunEnd}
use Rattle.tree_lint.specs.declared.written.Manner.{Manner}
use Rattle.tree_lint.specs.declared.written.Terminals.{Terminals}
use Rattle.module_config.specs.Options.{options_of}
use Rattle.module_config.specs.Configs.{Configures}
use Rattle.module_config.specs.Refusals.{configured_refusals}
use Rattle.module_config.specs.Words.{configured_words}
use Rattle.module_config.specs.declared.configure.Configured.{Configured}
use Rattle.lint_command.specs.Line as Line
use Rattle.lint_command.specs.Inner.Asked.{job_of}
use Rattle.lint_command.specs.Ends.{Collects, EndsLost, EndsWhole, IsFoot, LintsModules, RunsThen, Then, fault_status, head_of, is_cut, last_words, refused_remarks, summary}
use Rattle.lint_command.specs.Inner.Runs.{LintsCollected, LintsOr}
use Rattle.lint_command.specs.Inner.Closing.{Closes, last_status}
use Rattle.lint_command.specs.declared.options.Job.{Job}

-- ---- the end of a run

then_failed : (v : Bool) (w : Writer) (text : List ℕ) → v ≡ true → Then v w w text
then_failed true w text e = refl
then_failed false w text e = absurd (cc)

then_took : (v : Bool) (between last : Writer) (text : List ℕ) → v ≡ false → last.before ≡ between.before → TookBy last.failed between.after last.after text → Then v between last text
then_took true between last text e b t = absurd (cc)
then_took false between last text e b t = (b, t)

or_true : (a b : Bool) → b ≡ true → (a || b) ≡ true
or_true true b e = refl
or_true false b e = e

module _ (files : Files) (manner : Manner) (quiet : Bool) (c : Configured) (modules : List Governed) (faults : List Found) (was is : Faults) (ran : RunEnd) (between : End) (head : List ℕ) (same : modules ≡ c.governed.items) (first : head ≡ head_of manner.form)
    (linted : IsLintRun files manner head modules was is between ran) where
  linted' : IsLintRun files manner (head_of manner.form) c.governed.items was is between ran
  linted' = subst (λ l. IsLintRun files manner (head_of manner.form) l was is between ran) same (subst (λ h. IsLintRun files manner h modules was is between ran) first linted)

  cut_here : (end : End) → is_cut between ≡ true → end.out ≡ between.out → Then between.err.failed between.err end.err (write_failed tree_linter) → end.status ≡ 1 → RunsThen files manner quiet c faults was is end
  cut_here end bad out message exit = record { between = between; ran = ran; linted = linted'; ends = inl (record { cut = bad; output = out; message = message; exit = exit }) }

  -- standard error failed, so nothing more is written
  pub error_cut : (end : End) → between.err.failed ≡ true → end.out ≡ between.out → end.err ≡ between.err → end.status ≡ 1 → RunsThen files manner quiet c faults was is end
  error_cut end bad out err exit =
      cut_here end (or_true between.out.failed between.err.failed bad) out (subst (λ w. Then between.err.failed between.err w (write_failed tree_linter)) (sym err) (then_failed between.err.failed between.err (write_failed tree_linter) bad)) exit

  -- standard output failed, and that is reported
  pub output_cut : (p : Program) (v : Bool) (end : End) → p ≡ tree_linter → between.err.failed ≡ false → between.out.failed ≡ true → end.out ≡ between.out → end.err.before ≡ between.err.before
      → TookBy end.err.failed between.err.after end.err.after (if between.out.failed then write_failed p else []) → end.status ≡ (if v then p.failure else 1) → RunsThen files manner quiet c faults was is end
  output_cut p v end ep good bad out err took exit =
      cut_here end (ap (λ v. v || between.err.failed) bad) out
      (then_took between.err.failed between.err end.err (write_failed tree_linter) good err
      (subst (TookBy end.err.failed between.err.after end.err.after) ((λ i. if bad i then write_failed (ep i) else [])) took))
      (exit ∙ ap (λ (q : Program). if v then q.failure else 1) ep ∙ always v)
    where
      always : (v : Bool) → ◌≡◌ {A = ℕ} (if v then 1 else 1) 1
      always true = refl
      always false = refl

  -- no writer failed
  pub closed_here : (out err : Writer) (end : End) → between.err.failed ≡ false → between.out.failed ≡ false → between.status ≡ ran.status → end.out ≡ record out { before = between.out.before; flushes_before = between.out.flushes_before } → end.err ≡ record err { before = between.err.before; flushes_before = between.err.flushes_before }
      → out.before ≡ between.out.after → err.before ≡ between.err.after → (Untouched : Type 0) → (Untouched → end.out ≡ between.out) → Closes manner.form quiet c faults ran out err Untouched end.status → RunsThen files manner quiet c faults was is end
  closed_here out err end err_good out_good status eo ee bo be Untouched still closes = record { between = between; ran = ran; linted = linted'; ends = inr (by closes) }
    where
      whole : is_cut between ≡ false
      whole = ap (λ v. v || between.err.failed) out_good ∙ err_good

      said : (text : List ℕ) → Took err text → Then false between.err end.err text
      said text took = subst (λ (w : Writer). Then false between.err w text) (sym ee) (refl, subst (λ b. TookBy err.failed b err.after text) be took)

      by : Closes manner.form quiet c faults ran out err Untouched end.status → EndsLost manner.form between end ⊎ EndsWhole manner.form quiet c faults ran between end
      by (inl (forms, same, took, exit)) = inl (record { forms = forms; whole = whole; output = still same; message = said _ took; exit = exit })
      by (inr (foot, is', wrote, took, exit)) = inr (record {
        whole = whole;
        foot = foot;
        is = subst (λ s. IsFoot manner.form (worse_status s (fault_status faults c.unlinted)) ran faults c foot) (sym status) is';
        output = subst (λ (w : Writer). Then false between.out w foot) (sym eo) (refl, subst (λ b. TookBy out.failed b out.after foot) bo wrote);
        message = said (last_words quiet end.out.failed faults c ran.counts) (subst (λ (w : Writer). Took err (last_words quiet w.failed faults c ran.counts)) (sym eo) took);
        exit = exit ∙ ap (λ (s : ℕ). if out.failed || err.failed then 1 else worse_status s (fault_status faults c.unlinted)) (sym status)
            ∙ sym (λ i. if (eo i).failed || (ee i).failed then 1 else worse_status between.status (fault_status faults c.unlinted));
      })

-- the foot was written, and the last message was shown
pub closes_well : (form : Option Form) (quiet : Bool) (c : Configured) (faults : List Found) (ran ran' : RunEnd) (out err : Writer) (Untouched : Type 0) (status s : ℕ) (text slice : List ℕ) → s ≡ last_status ran faults c → IsFoot form s ran faults c text
    → ran'.counts ≡ ran.counts → ran'.status ≡ ran.status → slice ≡ text → Took out (slice ++ []) → Took err (last_words quiet out.failed faults c ran'.counts) → status ≡ (if out.failed || err.failed then 1 else worse_status ran'.status (fault_status faults c.unlinted))
    → Closes form quiet c faults ran out err Untouched status
closes_well form quiet c faults ran ran' out err Untouched status s text slice e is ec es same wrote took exit = inr (
  text,
  subst (λ k. IsFoot form k ran faults c text) e is,
  subst (Took out) (append-nil slice ∙ same) wrote,
  subst (λ k. Took err (last_words quiet out.failed faults c k)) ec took,
  exit ∙ ap (λ (k : ℕ). if out.failed || err.failed then 1 else worse_status k (fault_status faults c.unlinted)) es,
)

-- the refusals are those that were kept, those of names and those of files `.tfrules`
pub all_refused : (kept named whole : KeptRefusals) (faults : List Found) (c : Configured) → KeepsAll kept named (flat_map refusal_in faults) → KeepsAll named whole (configured_refusals c) → whole.is_whole ≡ true
    → (kept.is_whole ≡ true) × (map kept_remark whole.refusals.items ≡ refused_remarks kept faults c)
all_refused kept named whole faults c first then' is = keeps_more kept named whole (flat_map refusal_in faults) (configured_refusals c) first then' is

pub form_ends : {V E : Type 0} (items : V → List ℕ) (form : Form) (status : ℕ) (ran : RunEnd) (named whole : KeptRefusals) (faults : List Found) (c : Configured) (remarks slice : List code.Remark) (r : Result V E)
    → KeepsAll ran.kept named (flat_map refusal_in faults) → KeepsAll named whole (configured_refusals c) → whole.is_whole ≡ true → map said_by remarks ≡ map kept_remark whole.refusals.items → slice ≡ remarks
    → IfOk r (λ v. items v ≡ form_foot form status ran.has_output (map said_by slice)) → IfOk r (λ v. IsFoot (Some form) status ran faults c (items v))
form_ends items form status ran named whole faults c remarks slice (Ok v) first then' is said same e =
    let all = all_refused ran.kept named whole faults c first then' is in
    (all.0, e ∙ ap (form_foot form status ran.has_output) (ap (map said_by) same ∙ said ∙ all.1))
form_ends items form status ran named whole faults c remarks slice (Err f) first then' is said same e = tt

pub lints_modules : (files later : Files) (terminals : Terminals) (job : Job) (modules : List Module) (faults slice : List Found) (was looked is : Faults) (c : Configured) (end : End) → later ≡ files → slice ≡ faults
    → Configures files (options_of job.given.said) job.given.reads modules was looked c → RunsThen later (record { form = job.form; terminals = terminals }) job.quiet c slice looked is end → LintsCollected terminals (job_of job) modules faults files was is end
lints_modules files later terminals job modules faults slice was looked is c end same these h runs =
    inr (record { config = c; looked = looked; configures = h; runs = subst (λ l. RunsThen files (record { form = job.form; terminals = terminals }) job.quiet c l looked is end) these (subst (λ f. RunsThen f (record { form = job.form; terminals = terminals }) job.quiet c slice looked is end) same runs) })

pub lints_collected : (files later : Files) (terminals : Terminals) (job : Line.Job) (paths : List Name) (modules : List Module) (faults : List Found) (was walked is : Faults) (end : End) → later ≡ files → Collects files job.shard paths was walked modules faults
    → LintsCollected terminals job modules faults later walked is end → LintsOr terminals job paths files was is end
lints_collected files later terminals job paths modules faults was walked is end same c (inl memory) = inl memory
lints_collected files later terminals job paths modules faults was walked is end same c (inr lints) =
    inr (record { modules = modules; faults = faults; walked = walked; collects = c; lints = subst (λ f. LintsModules terminals job modules faults f walked is end) same lints })

-- ---- the last message

pub words_said : (quiet out_failed : Bool) (faults : List Found) (c : Configured) (counts : Counts) → out_failed ≡ false
    → flat_map fault_lines faults ++ (configured_words c ++ summary quiet c.unlinted counts) ≡ last_words quiet out_failed faults c counts
words_said quiet true faults c counts e = absurd (cc)
words_said quiet false faults c counts e = refl

pub failure_said : (quiet out_failed : Bool) (faults : List Found) (c : Configured) (counts : Counts) → out_failed ≡ true → write_failed tree_linter ≡ last_words quiet out_failed faults c counts
failure_said quiet true faults c counts e = refl
failure_said quiet false faults c counts e = absurd (cc)
