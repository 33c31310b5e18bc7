-- From a run over found names to the end of the program.
use Rattle.std.proofs.Common.{◌≡◌, ◌∙◌, ◌++◌, [], ℕ, Bool, true, false, List, All, ap, append-nil, map, refl, subst, sym}
use Rattle.std.specs.Prelude.{◌≢◌, ◌||◌, Option, if◌then◌else◌}
use Rattle.command_line.specs.Rows.{End, TookBy, Writer, out_of_memory}
use Rattle.file_tree.specs.Asked.{Asked}
use Rattle.file_tree.specs.Files.{Faults, Files, Name}
use Rattle.file_tree.specs.declared.walk.Found.{Found}
use Rattle.std.specs.List.{concat}
use Rattle.tree_format.specs.Reports.{worst_status}
use Rattle.tree_format.specs.Runs.{HasWhole, IsRun, Settled, reports_of}
use Rattle.tree_format.specs.States.{State}
use Rattle.tree_format.specs.Tally.{Tallies}
use Rattle.tree_format.specs.declared.tally.Tally.{Tally}
use Rattle.tree_format.specs.declared.outcome.Outcome.{Outcome}
use Rattle.tree_format.specs.declared.mode.Mode.{Mode}
use Rattle.command_line.proofs.WriterLemmas.{took_after, took_front}
use Rattle.tree_words.specs.Ends.{EndsBy}
use Rattle.tree_command.specs.Ends.{Formats, IsSelected, SaysOnly, last_words, words_at_end}
use Rattle.tree_command.specs.Formatter.{formatter}
use Rattle.tree_command.specs.Inner.Runs.{EndsByRequest, FormatsNamed, read_failed}
use Rattle.tree_command.specs.Line.{Request, Selection, selection_of}

either_false : (f g : Bool) → g ≡ false → (f || g) ≡ f
either_false true g e = refl
either_false false g e = e

either_true : (f g : Bool) → g ≡ true → (f || g) ≡ true
either_true true g e = refl
either_true false g e = e

first_false : (f g : Bool) → (f || g) ≡ false → f ≡ false
first_false true g e = e
first_false false g e = refl

abbrev errs : Mode → List Found → List Outcome → List ℕ
errs mode seen answers = concat (map (λ r. r.err) (reports_of mode seen answers))

abbrev statuses : Mode → List Found → List Outcome → ℕ
statuses mode seen answers = worst_status (map (λ r. r.status) (reports_of mode seen answers))

-- a text that a writer took whole stays whole, whatever it takes afterwards
still_whole : (w fin : Writer) (text last : List ℕ) → w.failed ≡ false → fin.before ≡ w.before → TookBy fin.failed w.after fin.after last → HasWhole w text → HasWhole fin text
still_whole w fin text last good same took has = record {
  more = has.more ++ last;
  between = has.between;
  whole = subst (λ b. TookBy false b has.between text) (sym same) has.whole;
  later = took_after has.between w.after fin.after fin.failed has.more last (subst (λ v. TookBy v has.between w.after has.more) good has.later) took;
}

module _ (shows : Bool) (mode : Mode) (found : List Found) (a c : State) (out err : Writer) (s : ℕ) (run : IsRun shows mode found (λ answers. []) a c (record { out = out; err = err; status = s })) where
  -- standard error failed, so nothing more is written
  run_stopped : (last : List Outcome → List ℕ) → err.failed ≡ true → IsRun shows mode found last a c (record { out = out; err = err; status = 4 })
  run_stopped last bad = record {
    seen = run.seen;
    rest = run.rest;
    all = run.all;
    whole = run.whole;
    answers = run.answers;
    looks = run.looks;
    output = run.output;
    message = took_front err.before err.after err.failed (errs mode run.seen run.answers) (last run.answers) bad (subst (TookBy err.failed err.before err.after) (append-nil (errs mode run.seen run.answers)) run.message);
    stops = run.stops;
    exit = sym (ap (λ (v : Bool). if v then 4 else statuses mode run.seen run.answers) (either_true out.failed err.failed bad));
  }

  -- standard error didn't fail, and the last message is written
  run_said : (last : List Outcome → List ℕ) (fin : Writer) (s' : ℕ) → err.failed ≡ false → fin.before ≡ err.before → TookBy fin.failed err.after fin.after (last run.answers) → s' ≡ (if out.failed || fin.failed then 4 else s)
      → IsRun shows mode found last a c (record { out = out; err = fin; status = s' })
  run_said last fin s' good same took status = record {
    seen = run.seen;
    rest = run.rest;
    all = run.all;
    whole = λ all_good. run.whole (ap (λ v. v || err.failed) (first_false out.failed fin.failed all_good) ∙ good);
    answers = run.answers;
    looks = run.looks;
    output = run.output;
    message = subst (λ b. TookBy fin.failed b fin.after (errs mode run.seen run.answers ++ last run.answers)) (sym same)
        (took_after err.before err.after fin.after fin.failed (errs mode run.seen run.answers) (last run.answers)
        (subst (λ v. TookBy v err.before err.after (errs mode run.seen run.answers)) good (subst (TookBy err.failed err.before err.after) (append-nil (errs mode run.seen run.answers)) run.message)) took);
    stops = record { output = run.stops.output; message = still_whole err fin _ (last run.answers) good same took run.stops.message };
    exit = exit_by out.failed fin.failed err.failed s s' (statuses mode run.seen run.answers) good run.exit status;
  }
    where
      exit_by : (o f e : Bool) (s s' w : ℕ) → e ≡ false → s ≡ (if o || e then 4 else w) → s' ≡ (if o || f then 4 else s) → s' ≡ (if o || f then 4 else w)
      exit_by true f e s s' w g h k = k
      exit_by false f e s s' w g h k = k ∙ ap (λ n. if f then 4 else n) (h ∙ ap (λ (v : Bool). if v then 4 else w) g)

status_kept : (v : Bool) (s s' : ℕ) → s' ≡ (if v then 4 else s) → s' ≢ 4 → s ≢ 4
status_kept true s s' e ne h = ne e
status_kept false s s' e ne h = ne (e ∙ h)

-- over files, with a device; the walk changed no file and asked for no replacement
module _ (shows quiet : Bool) (mode : Mode) (selection : Selection) (paths : List Name) (files mid : Files) (was walked : Faults) (asked asked' : Asked) (after : State) (found : List Found) (same : mid ≡ files) (still : asked' ≡ asked)
    (finds : IsSelected files was walked selection paths found) where
  formats_from : (end : End) → IsRun shows mode found (last_words quiet mode end.out.failed) (record { files = mid; faults = walked; asked = asked' }) after end
      → (end.status ≢ 4 → All (λ f. Settled mode (mid.told (mid.real f.name.items)) (after.files.told (mid.real f.name.items))) found)
      → ((name : Name) → All (λ f. name ≢ mid.real f.name.items) found → after.files.told name ≡ mid.told name)
      → Formats shows quiet mode selection paths (record { files = files; faults = was; asked = asked }) after end
  formats_from end run done untouched =
      subst (λ (f : Files). Formats shows quiet mode selection paths (record { files = f; faults = was; asked = asked }) after end) same (record {
        found = found;
        walked = walked;
        finds = subst (λ (f : Files). IsSelected f was walked selection paths found) (sym same) finds;
        run = subst (λ (q : Asked). IsRun shows mode found (last_words quiet mode end.out.failed) (record { files = mid; faults = walked; asked = q }) after end) still run;
        done = done;
        untouched = untouched;
      })

  module _ (out err : Writer) (s : ℕ) (tally : Tally) (run : Tallies shows mode found (record { files = mid; faults = walked; asked = asked' }) after (record { out = out; err = err; status = s }) tally)
      (done : s ≢ 4 → All (λ f. Settled mode (mid.told (mid.real f.name.items)) (after.files.told (mid.real f.name.items))) found)
      (untouched : (name : Name) → All (λ f. name ≢ mid.real f.name.items) found → after.files.told name ≡ mid.told name) where
    -- standard error failed, so no last message is written
    pub formats_stopped : err.failed ≡ true → Formats shows quiet mode selection paths (record { files = files; faults = was; asked = asked }) after (record { out = out; err = err; status = 4 })
    formats_stopped bad =
        formats_from (record { out = out; err = err; status = 4 })
        (run_stopped shows mode found (record { files = mid; faults = walked; asked = asked' }) after out err s run.0 (last_words quiet mode out.failed) bad)
        (λ ne. absurd (ne refl)) untouched

    -- the last message is written
    pub formats_finished : (fin : Writer) (s' : ℕ) → err.failed ≡ false → fin.before ≡ err.before → TookBy fin.failed err.after fin.after (words_at_end quiet mode out.failed tally)
        → s' ≡ (if out.failed || fin.failed then 4 else s) → Formats shows quiet mode selection paths (record { files = files; faults = was; asked = asked }) after (record { out = out; err = fin; status = s' })
    formats_finished fin s' good before took status =
        formats_from (record { out = out; err = fin; status = s' })
        (run_said shows mode found (record { files = mid; faults = walked; asked = asked' }) after out err s run.0 (last_words quiet mode out.failed) fin s' good before
        (subst (λ (t : Tally). TookBy fin.failed err.after fin.after (words_at_end quiet mode out.failed t)) run.1 took) status)
        (λ ne. done (status_kept (out.failed || fin.failed) s s' status ne)) untouched

-- the end of a run over the names of the line
pub ends_named : (shows : Bool) (asking : Request) (selection : Selection) (names : List Name) (failed : Bool) (input : Option (List ℕ)) (before after : State) (end : End)
    → asking.given.null ≡ false → selection ≡ selection_of asking → names ≡ asking.given.names
    → FormatsNamed shows asking.given.quiet asking.mode selection names before after end → EndsByRequest shows asking failed input before after end
ends_named shows asking selection names failed input before after end line selected named ends =
    let here : FormatsNamed shows asking.given.quiet asking.mode (selection_of asking) asking.given.names before after end =
    subst (λ (s : Selection). FormatsNamed shows asking.given.quiet asking.mode s asking.given.names before after end) selected
    (subst (λ (l : List Name). FormatsNamed shows asking.given.quiet asking.mode selection l before after end) named ends) in
    subst
    (λ (null : Bool). EndsBy (SaysOnly (out_of_memory formatter) before after end) (SaysOnly read_failed before after end)
    (λ paths. Formats shows asking.given.quiet asking.mode (selection_of asking) paths before after end) null asking.given.names failed input)
    (sym line) here
