-- There is a run in which nothing fails.
use Rattle.std.proofs.Common.{◌≡◌, ◌∙◌, ◌⊎◌, ◌∷◌, [], ◌<◌, ◌≤◌, ℕ, Bool, true, false, List, Option, Some, None, ⊎_elim, ap, append-nil, arith, inl, inr, length, lit<, map, refl, subst, sym}
use Rattle.std.specs.Prelude.{◌≢◌, ◌||◌, Ok}
use Rattle.std.specs.List.{list_any}
use Rattle.std.specs.Str.{bytes_eq}
use Rattle.std.proofs.lemmas.List.Elements.{All-head, All-tail, All-weaker}
use Rattle.std.proofs.lemmas.Slice.Eq.{bytes_eq-Decides}
use Rattle.command_line.specs.Rows.{End, Writer}
use Rattle.hcl_source.specs.Load.{IsText, max_source, print_too_large}
use Rattle.hcl_source.specs.Devices.{Tells}
use Rattle.hcl_source.specs.Places.{place}
use Rattle.hcl_source.specs.declared.device.Flushes.TheVariants.{Never}
use Rattle.hcl_source.specs.declared.fault.Fault.{Fault}
use Rattle.hcl_source.specs.declared.fault.FaultKind.{FaultKind}
use Rattle.hcl_tokens.specs.Faults.{IsScanFault}
use Rattle.hcl_tokens.specs.Lexemes.{Lexeme}
use Rattle.hcl_tokens.specs.Scans.{Scans}
use Rattle.hcl_grammar.specs.Classes.{lookaheads}
use Rattle.hcl_grammar.specs.Predictor.{refusal_of}
use Rattle.hcl_grammar.specs.Verdict.{fault_at, verdict_by}
use Rattle.hcl_tokens.specs.Scanned.{Scanned}
use Rattle.hcl_grammar.proofs.VerdictLemmas.{accepted_as, source_of}
use Rattle.hcl_grammar.specs.declared.refusal.Refusal.{Refusal}
use Rattle.hcl_layout.specs.Print.{print}
use Rattle.text_format.specs.Reprinted.{printed_tokens}
use Rattle.text_format.proofs.PrintLoadLemmas.{loads_again}
use Rattle.text_format.proofs.ForgetPlaceLemmas.{print_again, seen_again}
use Rattle.text_format.proofs.RescanLemmas.{scans_again}
use Rattle.file_tree.specs.Files.{Files, Name, with_fault, with_bytes}
use Rattle.tree_format.specs.States.{State}
use Rattle.file_tree.specs.declared.fault.TreeFault.{TreeFault}
use Rattle.file_tree.specs.Asked.{Asked, with_asked}
use Rattle.file_tree.specs.declared.tree.Replaced.TheVariants.{Kept as AllKept}
use Rattle.file_tree.specs.declared.walk.Found.{Found}
use Rattle.tree_format.specs.GoodRuns.{HasFormatOrFault, AreReady, HasLineRoom, HasRoom, Holds, IsReady}
use Rattle.text_format.specs.Format.{IsFault, IsFormat}
use Rattle.tree_format.specs.Looks.{Asks, Looks, Visits, failure_of, shown_diff}
use Rattle.tree_format.specs.Refusals.{shown_line}
use Rattle.tree_format.specs.Reports.{worst_status}
use Rattle.tree_format.specs.Runs.{IsRun, MayBecome, LooksAtAll, SeesBy, is_failed, reports_of}
use Rattle.tree_format.specs.declared.mode.Mode.{Mode}
use Rattle.tree_format.specs.declared.mode.Mode.TheVariants.{Write, Check, List as Listed, Diff}
use Rattle.tree_format.specs.declared.outcome.Outcome.{Outcome}
use Rattle.tree_format.specs.declared.outcome.Outcome.TheVariants as outcome
use Rattle.tree_format.proofs.KeptFormatLemmas.{no_format, visit_kept, visit_real}
use Rattle.tree_format.proofs.RealLemmas.{fold_four, not_four}

-- ---- bytes have a format or a fault

either_size : (a b : ℕ) → (a ≤ b) ⊎ (b < a)
either_size a b = grind arith

-- a text is a list of tokens, or has a fault
abbrev pub IsRead : List ℕ → Type 0
IsRead text = ((ts : List Lexeme) × Scans text ts) ⊎ ((kind : FaultKind) × (at : ℕ) × IsScanFault text kind at)

by_tokens : (text : List ℕ) (ts : List Lexeme) → IsText text → Scans text ts → (r : Option Refusal) → refusal_of (lookaheads ts) ≡ r → HasFormatOrFault text
by_tokens text ts is scans None e =
    let source : Scanned = record { text = text; tokens = ts } in
    let accepted = accepted_as text ts scans e in
    ⊎_elim (λ le. inl (print ts, record { text = is; source = source; accepted = accepted; printed = refl; fits = le }))
    (λ gt. inr (print_too_large, inr (is, inr (source, accepted, gt, refl))))
    (either_size (length (print ts)) max_source)
by_tokens text ts is scans (Some r) e =
    inr (fault_at (record { text = text; tokens = ts }) r, inr (is, inl (inr (ts, scans, sym (ap (verdict_by (record { text = text; tokens = ts })) e)))))

pub by_reading : (text : List ℕ) → IsText text → IsRead text → HasFormatOrFault text
by_reading text is (inl s) = by_tokens text s.0 is s.1 (refusal_of (lookaheads s.0)) refl
by_reading text is (inr f) = inr (record { kind = f.0; at = place text f.1 }, inr (is, inl (inl (f.0, f.1, f.2, refl))))

-- ---- one look

-- there is a look at these bytes that doesn't fail
abbrev SomeLook : Bool → Mode → Files → Name → Name → List ℕ → Type 0
SomeLook shows mode old given name bytes = (answer : Outcome) × (new : Files) × Looks shows mode old new given name bytes answer × (is_failed answer ≡ false)

shown : (shows : Bool) (old : Files) (given name bytes formatted : List ℕ) → IsFormat bytes formatted → formatted ≢ bytes → (answer : Outcome) → Holds answer (shown_diff given bytes formatted) → SomeLook shows Diff old given name bytes
shown shows old given name bytes formatted is ne (outcome.Differs text) h =
    (outcome.Differs text, old, (refl, record { formatted = formatted; is = is; changed = ne; left = refl }, h), refl)
shown shows old given name bytes formatted is ne outcome.Formatted h = absurd h
shown shows old given name bytes formatted is ne (outcome.Changed how) h = absurd h
shown shows old given name bytes formatted is ne (outcome.Refused fault snippet) h = absurd h
shown shows old given name bytes formatted is ne (outcome.Failed fault) h = absurd h

changed : (shows : Bool) (mode : Mode) (old : Files) (given name bytes formatted : List ℕ) → HasRoom mode given bytes → IsFormat bytes formatted → formatted ≢ bytes → SomeLook shows mode old given name bytes
changed shows (Write w) old given name bytes formatted room is ne =
    (outcome.Changed AllKept, with_bytes old name formatted, (no, record { formatted = formatted; is = is; changed = ne; left = refl }), refl)
  where
    no : Write w ≡ Diff → ⊥
    no e = cc
changed shows Check old given name bytes formatted room is ne =
    (outcome.Changed AllKept, old, (no, record { formatted = formatted; is = is; changed = ne; left = refl }), refl)
  where
    no : Check ≡ Diff → ⊥
    no e = cc
changed shows (Listed ending) old given name bytes formatted room is ne =
    (outcome.Changed AllKept, old, (no, record { formatted = formatted; is = is; changed = ne; left = refl }), refl)
  where
    no : (Listed ending) ≡ Diff → ⊥
    no e = cc
changed shows Diff old given name bytes formatted room is ne =
    let answer = room formatted is ne in
    shown shows old given name bytes formatted is ne answer.0 answer.1

formatted_look : (shows : Bool) (mode : Mode) (old : Files) (given name bytes formatted : List ℕ) → HasRoom mode given bytes → IsFormat bytes formatted → (v : Bool) → bytes_eq formatted bytes ≡ v
    → SomeLook shows mode old given name bytes
formatted_look shows mode old given name bytes formatted room is true e =
    (outcome.Formatted, old, (subst (IsFormat bytes) ((bytes_eq-Decides formatted bytes).0 e) is, refl), refl)
formatted_look shows mode old given name bytes formatted room is false e =
    changed shows mode old given name bytes formatted room is (λ same. no (sym ((bytes_eq-Decides formatted bytes).1 same) ∙ e))
  where
    no : true ≡ false → ⊥
    no h = cc

-- a refusal of these bytes, from an answer that holds the line of their fault
refused_with : (mode : Mode) (old : Files) (given name bytes : List ℕ) (fault : Fault) → IsFault bytes fault → (answer : Outcome) → Holds answer (shown_line true bytes fault) → SomeLook true mode old given name bytes
refused_with mode old given name bytes fault is (outcome.Differs text) h = (outcome.Refused fault (Some text), old, (is, refl, h), refl)
refused_with mode old given name bytes fault is outcome.Formatted h = absurd h
refused_with mode old given name bytes fault is (outcome.Changed how) h = absurd h
refused_with mode old given name bytes fault is (outcome.Refused other snippet) h = absurd h
refused_with mode old given name bytes fault is (outcome.Failed why) h = absurd h

refused_look : (shows : Bool) (mode : Mode) (old : Files) (given name bytes : List ℕ) (fault : Fault) → HasLineRoom shows bytes → IsFault bytes fault → SomeLook shows mode old given name bytes
refused_look false mode old given name bytes fault room is = (outcome.Refused fault None, old, (is, refl, refl), refl)
refused_look true mode old given name bytes fault room is =
    let answer = room fault is in
    refused_with mode old given name bytes fault is answer.0 answer.1

some_look : (shows : Bool) (mode : Mode) (old : Files) (given name bytes : List ℕ) → HasRoom mode given bytes → HasLineRoom shows bytes → HasFormatOrFault bytes → SomeLook shows mode old given name bytes
some_look shows mode old given name bytes room line (inl f) = formatted_look shows mode old given name bytes f.0 room f.1 (bytes_eq f.0 bytes) refl
some_look shows mode old given name bytes room line (inr f) = refused_look shows mode old given name bytes f.0 line f.1

visits_by : (shows : Bool) (mode : Mode) (old new : Files) (given name bytes : List ℕ) (answer : Outcome) → old.told name ≡ Some bytes → Looks shows mode old new given name bytes answer
    → Visits shows mode old new given name answer
visits_by shows mode old new given name bytes outcome.Formatted e l = (bytes, subst (λ o. Tells o bytes) (sym e) refl, l)
visits_by shows mode old new given name bytes (outcome.Changed how) e l = (bytes, subst (λ o. Tells o bytes) (sym e) refl, l)
visits_by shows mode old new given name bytes (outcome.Differs text) e l = (bytes, subst (λ o. Tells o bytes) (sym e) refl, l)
visits_by shows mode old new given name bytes (outcome.Refused fault snippet) e l = (bytes, subst (λ o. Tells o bytes) (sym e) refl, l)
visits_by shows mode old new given name bytes (outcome.Failed fault) e l = l

-- the replacements that this look asks for
some_asked : (shows : Bool) (mode : Mode) (old new : Files) (given name bytes : List ℕ) (answer : Outcome) (before : Asked) → Looks shows mode old new given name bytes answer
    → (after : Asked) × Asks mode given (Some bytes) before after answer
some_asked shows mode old new given name bytes outcome.Formatted before l = (before, refl)
some_asked shows (Write w) old new given name bytes (outcome.Changed how) before l = (
  with_asked before (record { name = given; old = bytes; new = l.1.formatted; writing = w; answer = Ok how }),
  record { bytes = bytes; tells = refl; formatted = l.1.formatted; is = l.1.is; changed = l.1.changed; asked = refl },
)
some_asked shows Check old new given name bytes (outcome.Changed how) before l = (before, refl)
some_asked shows (Listed ending) old new given name bytes (outcome.Changed how) before l = (before, refl)
some_asked shows Diff old new given name bytes (outcome.Changed how) before l = (before, refl)
some_asked shows mode old new given name bytes (outcome.Differs text) before l = (before, refl)
some_asked shows mode old new given name bytes (outcome.Refused fault snippet) before l = (before, refl)
some_asked shows mode old new given name bytes (outcome.Failed fault) before l = (before, inl refl)

no_failure_of : (answer : Outcome) → is_failed answer ≡ false → failure_of answer ≡ None
no_failure_of outcome.Formatted e = refl
no_failure_of (outcome.Changed how) e = refl
no_failure_of (outcome.Differs text) e = refl
no_failure_of (outcome.Refused fault snippet) e = refl
no_failure_of (outcome.Failed fault) e = absurd (cc)

-- there is a look at the file of a name that doesn't fail
abbrev SomeSight : Bool → Mode → Name → Option TreeFault → State → Type 0
SomeSight shows mode name fault before = (answer : Outcome) × (after : State) × SeesBy shows mode name fault answer before after × (is_failed answer ≡ false)

some_sight : (shows : Bool) (mode : Mode) (name : Name) (fault : Option TreeFault) (before : State) → fault ≡ None → IsReady shows mode name (before.files.told (before.files.real name)) → SomeSight shows mode name fault before
some_sight shows mode name fault before none ready = subst (λ f. SomeSight shows mode name f before) (sym none) (by (before.files.told (before.files.real name)) refl ready)
  where
    by : (told : Option (List ℕ)) → before.files.told (before.files.real name) ≡ told → IsReady shows mode name told → SomeSight shows mode name None before
    by None e ready = absurd ready
    by (Some bytes) e ready =
        let look = some_look shows mode before.files name (before.files.real name) bytes ready.1 ready.2 ready.0 in
        let asked = some_asked shows mode before.files look.1 name (before.files.real name) bytes look.0 before.asked look.2 in (
          look.0,
          record { files = look.1; faults = before.faults; asked = asked.0 },
          (
            visits_by shows mode before.files look.1 name (before.files.real name) bytes look.0 e look.2,
            record { is = inl (sym (ap (with_fault before.faults) (no_failure_of look.0 look.3))) },
            subst (λ (o : Option (List ℕ)). Asks mode name o before.asked asked.0 look.0) (sym e) asked.1,
          ),
          look.3,
        )

-- ---- files that are ready stay ready

formatted_again : (x y : List ℕ) → IsFormat x y → IsFormat y y
formatted_again x y f =
    let tokens = f.source.tokens in
    let of = source_of x f.source f.accepted in
    let text : IsText y = subst IsText (sym f.printed) (loads_again x tokens f.text of.scanned (subst (λ l. length l ≤ max_source) f.printed f.fits)) in
    let again : Scans y (printed_tokens tokens) = subst (λ l. Scans l (printed_tokens tokens)) (sym f.printed) (scans_again x tokens of.scanned) in
    record {
      text = text;
      source = record { text = y; tokens = printed_tokens tokens };
      accepted = accepted_as y (printed_tokens tokens) again (ap refusal_of (seen_again tokens) ∙ of.accepted);
      printed = f.printed ∙ sym (print_again tokens);
      fits = f.fits;
    }

-- formatted bytes need no room for the line of a fault
line_room : (shows : Bool) (bytes : List ℕ) → IsFormat bytes bytes → HasLineRoom shows bytes
line_room false bytes f = tt
line_room true bytes f = λ fault is. absurd (no_format bytes bytes fault is f)

ready_kept : (shows : Bool) (mode : Mode) (name : Name) (a b : Option (List ℕ)) → MayBecome mode a b → IsReady shows mode name a → IsReady shows mode name b
ready_kept shows (Write w) name None b k ready = absurd ready
ready_kept shows (Write w) name (Some x) b (inl e) ready = subst (IsReady shows (Write w) name) (sym e) ready
ready_kept shows (Write w) name (Some x) b (inr f) ready = subst (IsReady shows (Write w) name) (sym f.2) (inl (f.0, formatted_again x f.0 f.1), tt, line_room shows f.0 (formatted_again x f.0 f.1))
ready_kept shows Check name a b k ready = subst (IsReady shows Check name) (sym k) ready
ready_kept shows (Listed ending) name a b k ready = subst (IsReady shows (Listed ending) name) (sym k) ready
ready_kept shows Diff name a b k ready = subst (IsReady shows Diff name) (sym k) ready

ready_after_visit : (shows : Bool) (mode : Mode) (old new : Files) (given name : Name) (answer : Outcome) → Visits shows mode old new given name answer → (other : Name)
    → IsReady shows mode other (old.told (old.real other)) → IsReady shows mode other (new.told (new.real other))
ready_after_visit shows mode old new given name answer v other ready =
    subst (λ n. IsReady shows mode other (new.told n)) (sym (visit_real shows mode old new given name answer v other))
    (ready_kept shows mode other (old.told (old.real other)) (new.told (old.real other)) (visit_kept shows mode old new given name answer v (old.real other)) ready)

ready_after : (shows : Bool) (mode : Mode) (name : Name) (fault : Option TreeFault) (answer : Outcome) (a b : State) → SeesBy shows mode name fault answer a b → (other : Name)
    → IsReady shows mode other (a.files.told (a.files.real other)) → IsReady shows mode other (b.files.told (b.files.real other))
ready_after shows mode name (Some fault) answer a b s other ready = subst (λ (state : State). IsReady shows mode other (state.files.told (state.files.real other))) (sym s.1) ready
ready_after shows mode name None answer a b s other ready = ready_after_visit shows mode a.files b.files name (a.files.real name) answer s.0 other ready

-- ---- the run

abbrev SomeLooks : Bool → Mode → List Found → State → Type 0
SomeLooks shows mode found before = (answers : List Outcome) × (after : State) × LooksAtAll shows mode found answers before after × (list_any is_failed answers ≡ false)

some_looks : (shows : Bool) (mode : Mode) (found : List Found) (before : State) → AreReady shows mode before.files found → SomeLooks shows mode found before
some_looks shows mode [] before ready = ([], before, refl, refl)
some_looks shows mode (f ∷ more) before ready =
    let here = All-head (λ g. (g.fault ≡ None) × IsReady shows mode g.name.items (before.files.told (before.files.real g.name.items))) f more ready in
    let one = some_sight shows mode f.name.items f.fault before here.0 here.1 in
    let rest = some_looks shows mode more one.1
    (All-weaker (λ g. (g.fault ≡ None) × IsReady shows mode g.name.items (before.files.told (before.files.real g.name.items)))
    (λ g. (g.fault ≡ None) × IsReady shows mode g.name.items (one.1.files.told (one.1.files.real g.name.items)))
    (λ g r. (r.0, ready_after shows mode f.name.items f.fault one.0 before one.1 one.2 g.name.items r.1)) more
    (All-tail (λ g. (g.fault ≡ None) × IsReady shows mode g.name.items (before.files.told (before.files.real g.name.items))) f more ready)) in
    (one.0 ∷ rest.0, rest.1, (one.1, one.2, rest.2), ap (λ v. v || list_any is_failed rest.0) one.3 ∙ rest.3)

-- a writer that doesn't tell what it takes
abbrev quiet : Writer
quiet = record { before = None; after = None; failed = false; flushed = false; flushes_before = Never; flushes_after = Never }

pub a_run : (shows : Bool) (mode : Mode) (found : List Found) (before : State) → AreReady shows mode before.files found
    → (after : State) × (end : End) × (run : IsRun shows mode found (λ answers. []) before after end) × (end.status ≢ 4)
a_run shows mode found before ready =
    let looks = some_looks shows mode found before ready in
    let status = worst_status (map (λ r. r.status) (reports_of mode found looks.0)) in (
      looks.1,
      record { out = quiet; err = quiet; status = status },
      record {
        seen = found;
        rest = [];
        all = sym (append-nil found);
        whole = λ _. refl;
        answers = looks.0;
        looks = looks.2;
        output = tt;
        message = tt;
        stops = record {
          output = record { more = []; between = None; whole = tt; later = tt };
          message = record { more = []; between = None; whole = tt; later = tt };
        };
        exit = refl;
      },
      λ e. no (sym (fold_four shows mode found looks.0 before looks.1 0 (not_four 0 (lit< tt)) looks.2 e) ∙ looks.3),
    )
  where
    no : true ≡ false → ⊥
    no h = cc
