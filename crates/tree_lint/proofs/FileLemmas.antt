-- The files of a module, one after another.
use Rattle.std.proofs.Common.{◌≡◌, ◌∙◌, ◌<◌, ◌≤◌, ◌+◌, ◌++◌, ℕ, Bool, true, false, zero, suc, Global, List, String, [], ◌∷◌, Option, ap, append-nil, arith, drop, get_or, inl, inr, length, map, refl, subst, sym, take}
use Rattle.std.specs.Prelude.{Result, Ok, Err, string_bytes}
use Rattle.std.specs.declared.vec.Vec.{Vec}
use Rattle.std.specs.Io.KnownBytes.{Consumes}
use Rattle.std.proofs.lemmas.Grind.{flat_map-append}
use Rattle.std.proofs.lemmas.List.{get_or_default, map-append, take-append-drop}
use Rattle.tree_lint.specs.CommentFaults.{fault_view, faults_in}
use Rattle.command_line.proofs.ListCutLemmas.{from_here}
use Rattle.file_tree.specs.Files.{Faults, Files, Name, Tells, fault_of_reader, with_fault}
use Rattle.file_tree.specs.declared.fault.TreeFault.{TreeFault}
use Rattle.file_tree.specs.declared.fault.TreeFault.TheVariants.{OutOfMemory}
use Rattle.hcl_grammar.specs.Classes.{lookaheads}
use Rattle.hcl_grammar.specs.Predictor.{refusal_of}
use Rattle.hcl_grammar.specs.Verdict.{IsTextVerdict, verdict, verdict_by}
use Rattle.hcl_grammar.specs.declared.refusal.Refusal.{Refusal}
use Rattle.hcl_source.specs.declared.fault.Fault.{Fault}
use Rattle.hcl_tokens.specs.Scanned.{Scanned}
use Rattle.source_snippet.specs.Snippets.{snippet_if}
use Rattle.hcl_source.specs.Load.{IsLoadFault, IsText, Loads, is_failed_load}
use Rattle.hcl_source.specs.declared.fault.LoadError.{LoadError}
use Rattle.hcl_source.specs.declared.fault.LoadError.TheVariants as error
use Rattle.tf_rules.specs.Answers.{AreIssues}
use Rattle.tf_rules.specs.Issues.{File, asked_of}
use Rattle.tf_rules.specs.Stored.{Stored}
use Rattle.tfrules_command.proofs.GatherLemmas.{fault_of_whole, next_number, numbered_more, outcome_of, reached_more, reached_none, tells_all}
use Rattle.tf_rules.specs.declared.issue.Issue.{Issue}
use Rattle.tfrules_command.specs.Files.{NamedFile, max_module, numbered_files}
use Rattle.tfrules_command.specs.Keeping.{Reached, ScansFile}
use Rattle.tfrules_command.specs.declared.gather.ScannedFile.{ScannedFile}
use Rattle.tfrules_command.specs.declared.stop.Stop.{Stop as FileStop}
use Rattle.tfrules_command.specs.declared.stop.Stop.TheVariants as file_stop
use Rattle.tree_lint.specs.Inner.Gathering.{AddedFile, AddsComments, AddsFile, AddsRead, IsEmpty, KeepsFile, KeepsScanned, ReachedAll, ReadsFile, StopsLoad, StopsWith, texts_kept}
use Rattle.module_find.specs.Modules.{bytes_of_name}
use Rattle.tree_lint.specs.Verdicts.{HaveFound, Linted, StopsAt, StopsBy, comments_looked_for, shows_lines, texts_shown}
use Rattle.tree_lint.specs.declared.gather.Gathered.{Gathered}
use Rattle.module_find.specs.declared.policy.Policy.{Policy}
use Rattle.tree_lint.specs.declared.stop.Stop.{Stop}
use Rattle.tree_lint.specs.declared.stop.Stop.TheVariants as stop
use Rattle.tree_lint.specs.declared.written.Terminals.{Terminals}

-- ---- one file

pub read_here : (told left left' : Option (List ℕ)) (bytes : List ℕ) (was is : Faults) (failed : Bool) (loaded : Result (List ℕ) LoadError) (answer : Result (List ℕ) Stop) → StopsLoad loaded answer
    → is ≡ with_fault was (fault_of_reader failed) → failed ≡ is_failed_load loaded → left ≡ told → Consumes left left' bytes → Loads bytes left' loaded → ReadsFile told was is answer
read_here told left left' bytes was is failed loaded answer same e f here taken loads =
    by loaded answer same (e ∙ ap (λ v. with_fault was (fault_of_reader v)) f) loads
  where
    by : (l : Result (List ℕ) LoadError) (a : Result (List ℕ) Stop) → StopsLoad l a → is ≡ with_fault was (fault_of_reader (is_failed_load l)) → Loads bytes left' l → ReadsFile told was is a
    by (Ok text) a s e l = subst (ReadsFile told was is) (sym s) (e, subst (λ t. Tells t text) here (subst (Tells left) (sym l.0) (tells_all left left' bytes taken l.2)), subst IsText (sym l.0) l.1)
    by (Err (error.Fault fault)) (Err (stop.Refused same line)) s e l =
        (e, subst (λ (f : Fault). (all : List ℕ) × Tells told all × IsLoadFault all f) (sym s.0) (subst (λ t. (all : List ℕ) × Tells t all × IsLoadFault all fault) here (fault_of_whole left left' bytes fault taken l.1 l.0)), s.1)
    by (Err (error.Fault fault)) (Err stop.TooLarge) s e l = absurd s
    by (Err (error.Fault fault)) (Err (stop.Failed why)) s e l = absurd s
    by (Err (error.Fault fault)) (Ok text) s e l = absurd s
    by (Err error.ReadFailed) a s e l = subst (ReadsFile told was is) (sym s) (inl e)
    by (Err error.OutOfMemory) a s e l = subst (ReadsFile told was is) (sym s) (inr (refl, e))

pub unopened : (told : Option (List ℕ)) (was is : Faults) (fault : TreeFault) → is ≡ with_fault was (Option.Some fault) → ReadsFile told was is (Err (stop.Failed fault))
unopened told was is fault e = inl e

verdict_is : (s t : Scanned) → Ok s ≡ verdict t → s ≡ t
verdict_is s t e = by (refusal_of (lookaheads t.tokens)) e
  where
    by : (o : Option Refusal) → ◌≡◌ {A = Result Scanned Fault} (Ok s) (verdict_by t o) → s ≡ t
    by Option.None e = cc
    by (Option.Some r) e = absurd (cc)

pub keeps_file : (text : List ℕ) (size number : ℕ) (old new : Gathered) (file : ScannedFile) (answer : Result ℕ FileStop) → ScansFile text size (Ok file) → KeepsScanned file number old new answer → KeepsFile text size number old new answer
keeps_file text size number old new file answer s = by answer
  where
    outcome : (o : Result Scanned Fault) → o ≡ verdict file.tokens → IsTextVerdict text o
    outcome o e = outcome_of text file.tokens o s.0 s.1 e

    by : (a : Result ℕ FileStop) → KeepsScanned file number old new a → KeepsFile text size number old new a
    by (Ok more) k = (
      k.0.0,
      outcome (Ok k.0.0) k.0.1,
      k.0.2 ∙ s.2,
      subst (λ n. n ≤ max_module) (sym k.0.2) s.3,
      k.0.3,
      subst (λ (t : Scanned). AddsComments (record { number = number; source = t }) old new) (sym (verdict_is k.0.0 file.tokens k.0.1)) k.1,
    )
    by (Err (file_stop.Refused fault)) k = (subst (λ n. n ≤ max_module) s.2 s.3, outcome (Err fault) k)
    by (Err file_stop.TooLarge) k = absurd k
    by (Err file_stop.NotOpened) k = absurd k
    by (Err file_stop.NotRead) k = absurd k
    by (Err file_stop.OutOfMemory) k = tt

-- the text of the file is kept too
pub read_kept : (text : List ℕ) (size number : ℕ) (old mid new : Gathered) (more : ℕ) → KeepsFile text size number old mid (Ok more) → new ≡ record mid { texts = new.texts } → new.texts.items ≡ mid.texts.items ++ texts_kept (shows_lines mid.terminals) text
    → AddsRead text size number old new (Ok more)
read_kept text size number old mid new more k rest texts = (
  k.0,
  k.1,
  k.2,
  k.3,
  ap (λ (g : Gathered). g.facts) rest ∙ k.4,
  record {
    checks = ap (λ (g : Gathered). g.checks) rest ∙ k.5.checks;
    comments = ap (λ (g : Gathered). map fault_view g.comments.items) rest ∙ k.5.comments;
    terminals = ap (λ (g : Gathered). g.terminals) rest ∙ k.5.terminals;
    texts = texts ∙ ap (λ (v : Vec (List ℕ) Global). v.items ++ texts_kept (shows_lines mid.terminals) text) k.5.texts ∙ ap (λ (v : Terminals). old.texts.items ++ texts_kept (shows_lines v) text) k.5.terminals;
  },
)

-- memory ran out, so the file isn't kept
pub read_lost : (text : List ℕ) (size number : ℕ) (old new : Gathered) → AddsRead text size number old new (Err (stop.Failed OutOfMemory))
read_lost text size number old new = (file_stop.OutOfMemory, tt, refl)

stops_by : (told : Option (List ℕ)) (text : List ℕ) (size : ℕ) (was is : Faults) (shows : Bool) (w : FileStop) (s : Stop) → is ≡ was → Tells told text → IsText text → ScansFile text size (Err w) → StopsWith shows text w s → StopsBy shows told size was is s
stops_by told text size was is shows (file_stop.Refused fault) (stop.Refused same line) e tells t k h =
    (e, (text, tells, inr (t, k.0, subst (λ (f : Fault). IsTextVerdict text (Err f)) (sym h.0) k.1, h.1 ∙ ap (λ (f : Fault). snippet_if shows text f.at) (sym h.0))))
stops_by told text size was is shows (file_stop.Refused fault) stop.TooLarge e tells t k h = absurd h
stops_by told text size was is shows (file_stop.Refused fault) (stop.Failed why) e tells t k h = inr (h, e)
stops_by told text size was is shows file_stop.TooLarge s e tells t k h = subst (StopsBy shows told size was is) (sym h) (e, (text, tells, (t, k)))
stops_by told text size was is shows file_stop.OutOfMemory s e tells t k h = subst (StopsBy shows told size was is) (sym h) (inr (refl, e))
stops_by told text size was is shows file_stop.NotOpened s e tells t k h = absurd k
stops_by told text size was is shows file_stop.NotRead s e tells t k h = absurd k

pub adds_read : (told : Option (List ℕ)) (text : List ℕ) (size number : ℕ) (was is : Faults) (old new : Gathered) (answer : Result ℕ Stop) → is ≡ was → Tells told text → IsText text → AddsRead text size number old new answer
    → AddsFile told size number was is old new answer
adds_read told text size number was is old new (Ok more) e tells t k =
    (e, record { added = record { bytes = text; is = tells; text = t; source = k.0; outcome = k.1; size_is = k.2; fits = k.3; kept = k.4 }; found = k.5 })
adds_read told text size number was is old new (Err why) e tells t k = stops_by told text size was is old.terminals.err k.0 why e tells t k.1 k.2

pub stops_unread : (shows : Bool) (told : Option (List ℕ)) (size : ℕ) (was is : Faults) (why : Stop) → ReadsFile told was is (Err why) → StopsBy shows told size was is why
stops_unread shows told size was is (stop.Refused fault line) r = (r.0, (r.1.0, r.1.1, inl (r.1.2, r.2)))
stops_unread shows told size was is stop.TooLarge r = absurd r
stops_unread shows told size was is (stop.Failed fault) r = r

-- ---- the file that isn't kept

pub stops_at : (shows shown : Bool) (told : Name → Option (List ℕ)) (names : List Name) (i size : ℕ) (name : Name) (here : Option (List ℕ)) (kept : Stored) (first was is : Faults) (why : Stop) → i < length names → name ≡ get_or names i [] → here ≡ told name → was ≡ first
    → Reached told (take i names) size kept → shown ≡ shows → StopsBy shown here size was is why → StopsAt shows told names first is name why
stops_at shows shown told names i size name here kept first was is why lt named same e p on h = record {
  before = p.files;
  after = drop (i + 1) names;
  split = sym (take-append-drop i names) ∙ ap (λ l. take i names ++ l) (from_here names i name lt (named ∙ get_or_default names i [] name lt)) ∙ ap (λ l. l ++ name ∷ drop (i + 1) names) (sym p.named);
  are = p.are;
  sources = p.sources;
  accepted = p.accepted;
  by = subst (λ n. StopsBy shows (told name) n first is why) p.size_is (subst (λ w. StopsBy shows (told name) size w is why) e (subst (λ t. StopsBy shows t size was is why) same (subst (λ s. StopsBy s here size was is why) on h)));
}

-- ---- all files

looked_more : (checks : Bool) (fs gs : List File) → comments_looked_for checks (fs ++ gs) ≡ comments_looked_for checks fs ++ comments_looked_for checks gs
looked_more true fs gs = flat_map-append faults_in fs gs
looked_more false fs gs = refl

pub none_added : (file : File) (all : Gathered) → all.checks ≡ false → AddsComments file all all
none_added file all e = record { checks = refl; terminals = refl; texts = refl; comments = sym (append-nil (map fault_view all.comments.items)) ∙ ap (λ v. map fault_view all.comments.items ++ comments_looked_for v (file ∷ [])) (sym e) }

pub comments_added : (file : File) (old new : Gathered) → old.checks ≡ true → new.checks ≡ old.checks → new.terminals ≡ old.terminals → new.texts ≡ old.texts → map fault_view new.comments.items ≡ map fault_view old.comments.items ++ faults_in file → AddsComments file old new
comments_added file old new e same ends texts added = record {
  checks = same;
  terminals = ends;
  texts = texts;
  comments = added ∙ ap (λ l. map fault_view old.comments.items ++ l) (sym (append-nil (faults_in file))) ∙ ap (λ v. map fault_view old.comments.items ++ comments_looked_for v (file ∷ [])) (sym e);
}

looked_none : (checks : Bool) → [] ≡ comments_looked_for checks []
looked_none true = refl
looked_none false = refl

shown_none : (shows : Bool) → [] ≡ texts_shown shows []
shown_none true = refl
shown_none false = refl

shown_more : (shows : Bool) (files : List NamedFile) (file : NamedFile) → texts_shown shows files ++ texts_kept shows file.bytes ≡ texts_shown shows (files ++ file ∷ [])
shown_more true files file = sym (map-append (λ (f : NamedFile). f.bytes) files (file ∷ []))
shown_more false files file = refl

pub reached_all_none : (told : Name → Option (List ℕ)) (all : Gathered) → IsEmpty all → ReachedAll told [] 0 all.checks all.terminals all
unfolding reached_none
reached_all_none told all e = record {
  reached = reached_none told all.facts e.facts;
  checks_are = refl;
  comments = ap (map fault_view) e.comments ∙ looked_none all.checks;
  terminals_are = refl;
  texts = e.texts ∙ shown_none (shows_lines all.terminals);
}

pub reached_all_more : (told : Name → Option (List ℕ)) (names : List Name) (i size more : ℕ) (name : Name) (here : Option (List ℕ)) (checks : Bool) (terminals : Terminals) (old new : Gathered) → i < length names → name ≡ get_or names i [] → here ≡ told name
    → ReachedAll told (take i names) size checks terminals old → AddedFile here size i old new more → ReachedAll told (take (i + 1) names) more checks terminals new
unfolding reached_more
reached_all_more told names i size more name here checks terminals old new lt named same p a =
    let sources = p.reached.sources in
    let file : File = record { number = i; source = a.added.source } in
    let shows = shows_lines terminals in
    let next : numbered_files 0 (sources ++ a.added.source ∷ []) ≡ numbered_files 0 sources ++ file ∷ [] =
    numbered_more 0 sources a.added.source ∙ ap (λ (n : ℕ). numbered_files 0 sources ++ record { number = n; source = a.added.source } ∷ []) (next_number told names i size old.facts lt p.reached) in
    record {
      reached = reached_more told names i size more name here old.facts new.facts lt named same p.reached a.added;
      checks_are = a.found.checks ∙ p.checks_are;
      comments = a.found.comments ∙ ap (λ l. l ++ comments_looked_for old.checks (file ∷ [])) p.comments ∙ ap (λ v. comments_looked_for checks (numbered_files 0 sources) ++ comments_looked_for v (file ∷ [])) p.checks_are
          ∙ sym (looked_more checks (numbered_files 0 sources) (file ∷ [])) ∙ ap (comments_looked_for checks) (sym next);
      terminals_are = a.found.terminals ∙ p.terminals_are;
      texts = a.found.texts ∙ ap (λ l. l ++ texts_kept (shows_lines old.terminals) a.added.bytes) p.texts ∙ ap (λ (v : Terminals). texts_shown shows p.reached.files ++ texts_kept (shows_lines v) a.added.bytes) p.terminals_are
          ∙ shown_more shows p.reached.files (record { name = name; bytes = a.added.bytes });
    }

pub have_found : (told : Name → Option (List ℕ)) (policy : Policy) (names : List Name) (size : ℕ) (checks : Bool) (ends terminals : Terminals) (all : Gathered) (issues : List Issue) (linted : Linted) → checks ≡ policy.checks → ends ≡ terminals
    → (p : ReachedAll told names size checks ends all) → linted ≡ record { issues = issues; comments = map fault_view all.comments.items; texts = all.texts.items } → AreIssues (asked_of policy.settings) (numbered_files 0 p.reached.sources) issues
    → HaveFound told terminals policy names linted
have_found told policy names size checks ends terminals all issues linted same seen p e found = subst (HaveFound told terminals policy names) (sym e) (record {
  files = p.reached.files;
  named = p.reached.named;
  are = p.reached.are;
  sources = p.reached.sources;
  accepted = p.reached.accepted;
  issues = found;
  comments = p.comments ∙ ap (λ v. comments_looked_for v (numbered_files 0 p.reached.sources)) same;
  texts = p.texts ∙ ap (λ (v : Terminals). texts_shown (shows_lines v) p.reached.files) seen;
})

-- ---- by the views of the code's values

pub told_here : (later files : Files) (name : Name) → later ≡ files → bytes_of_name later name ≡ bytes_of_name files name
told_here later files name same = ap (λ f. bytes_of_name f name) same

pub name_here : (names : List (String Global)) (i : ℕ) (item : String Global) (name : Name) → i < length names → item ≡ get_or names i item → name ≡ string_bytes item → name ≡ get_or (map string_bytes names) i []
name_here [] i item name lt is e = absurd (omega (arith, lt))
name_here (x ∷ names) zero item name lt is e = e ∙ ap string_bytes is
name_here (x ∷ names) (suc i) item name lt is e = name_here names i item name (omega (arith, lt)) is e
