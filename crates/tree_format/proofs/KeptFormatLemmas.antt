-- What may become of a file in a run, one look after another.
use Rattle.std.proofs.Common.{Global, Vec, ◌≡◌, ◌∙◌, ◌≤◌, ◌++◌, ◌⊎◌, ◌<◌, ℕ, Bool, true, false, List, [], Option, Some, None, refl, sym, ap, subst, inl, inr, length, append-nil, arith, ⊎_elim}
use Rattle.std.specs.Prelude.{◌&&◌, Result, Ok, Err, option_map, if◌then◌else◌}
use Rattle.std.specs.Str.{bytes_eq}
use Rattle.std.proofs.lemmas.Slice.Eq.{bytes_eq-Decides}
use Rattle.std.specs.Io.KnownBytes.{Consumes, IsAtEnd}
use Rattle.hcl_source.specs.Load.{max_source, IsText, IsLoadFault, IsLoadFaultAt, Loads, is_failed_load}
use Rattle.hcl_source.specs.declared.fault.Fault.{Fault}
use Rattle.hcl_source.specs.declared.fault.FaultKind.{FaultKind}
use Rattle.hcl_source.specs.declared.fault.FaultKind.TheVariants.{TooLarge, InvalidUtf8, ByteOrderMark, InvalidCharacter, UnterminatedQuote, UnterminatedComment, UnterminatedHeredoc, UnterminatedTemplate, InvalidEscape, TooDeep, UnexpectedToken, UnexpectedEnd, ResultTooLarge}
use Rattle.hcl_source.specs.declared.fault.LoadError.{LoadError}
use Rattle.hcl_source.specs.declared.fault.LoadError.TheVariants as error
use Rattle.hcl_tokens.specs.Scanned.{IsScanError, Scanned}
use Rattle.hcl_tokens.specs.declared.token.ScanError.{ScanError}
use Rattle.hcl_tokens.specs.declared.token.ScanError.TheVariants as scan_error
use Rattle.hcl_grammar.specs.Classes.{lookaheads}
use Rattle.hcl_grammar.specs.Predictor.{refusal_of}
use Rattle.hcl_grammar.specs.Verdict.{IsAccepted, IsTextVerdict, fault_at, verdict, verdict_by}
use Rattle.hcl_grammar.proofs.VerdictLemmas.{accepted_as, not_both, one_verdict, source_of, source_or}
use Rattle.hcl_grammar.specs.declared.refusal.Refusal.{Refusal}
use Rattle.hcl_source.proofs.LoadLemmas.{text_or_fault, too_large_too}
use Rattle.hcl_tokens.specs.Scans.{Scans}
use Rattle.hcl_tokens.proofs.OneReadingLemmas.{no_fault, one_scan}
use Rattle.std.specs.Prelude.{All, get_or, take, ◌+◌}
use Rattle.std.proofs.lemmas.List.Elements.{All-more, All-weaker}
use Rattle.hcl_scan.proofs.SpellingLemmas.{one_kind}
use Rattle.hcl_tokens.proofs.NonemptyLemmas.{nonempty}
use Rattle.hcl_layout.specs.Print.{print}
use Rattle.text_format.specs.Reprinted.{printed_tokens}
use Rattle.text_format.proofs.ForgetPlaceLemmas.{print_again}
use Rattle.text_format.proofs.RescanLemmas.{scans_again}
use Rattle.file_tree.specs.Asked.{Asked}
use Rattle.file_tree.specs.Files.{Faults, Files, Name, fault_of_reader, with_fault, with_bytes}
use Rattle.hcl_source.specs.Devices.{Tells}
use Rattle.file_tree.specs.declared.fault.TreeFault.{TreeFault}
use Rattle.file_tree.specs.declared.fault.TreeFault.TheVariants.{OutOfMemory}
use Rattle.file_tree.specs.declared.tree.Replaced.{Replaced}
use Rattle.file_tree.specs.declared.tree.Writing.{Writing}
use Rattle.text_format.specs.Format.{IsFault, IsFormat}
use Rattle.tree_format.specs.Looks.{Asks, AsksIn, Left, Looks, Notes, Visits, failure_of}
use Rattle.source_snippet.specs.Snippets.{snippet_if}
use Rattle.tree_format.specs.Refusals.{is_about_line, shown_line}
use Rattle.tree_format.specs.Reports.{snippet_text}
use Rattle.tree_format.specs.Runs.{IsSafe, MayBecome, Settled, is_failed}
use Rattle.tree_format.specs.Inner.Steps.{Completes, IsShown, LoadNotes, LoadsFile, Makes, MakesAsking, PrintAsked, outcome_by, outcome_of_scan}
use Rattle.tree_format.specs.declared.mode.Mode.{Mode}
use Rattle.tree_format.specs.declared.mode.Mode.TheVariants.{Write, Check, List as Listed, Diff}
use Rattle.tree_format.specs.declared.outcome.Outcome.{Outcome}
use Rattle.tree_format.specs.declared.outcome.Outcome.TheVariants as outcome

-- ---- a formatted file stays formatted

pub format_once : (x y z : List ℕ) → IsFormat x y → IsFormat y z → z ≡ y
format_once x y z f g =
    let tokens = f.source.tokens in
    let again : Scans y (printed_tokens tokens) = subst (λ l. Scans l (printed_tokens tokens)) (sym f.printed) (scans_again x tokens (source_of x f.source f.accepted).scanned) in
    g.printed ∙ ap print (one_scan one_kind nonempty y g.source.tokens (printed_tokens tokens) (source_of y g.source g.accepted).scanned again) ∙ print_again tokens ∙ sym f.printed

-- ---- runs one after another

pub kept_same : (mode : Mode) (a b : Option (List ℕ)) → b ≡ a → MayBecome mode a b
kept_same (Write w) None b e = e
kept_same (Write w) (Some x) b e = inl e
kept_same Check a b e = e
kept_same (Listed ending) a b e = e
kept_same Diff a b e = e

kept_on : (w : Writing) (x y : List ℕ) (c : Option (List ℕ)) → IsFormat x y → MayBecome (Write w) (Some y) c → MayBecome (Write w) (Some x) c
kept_on w x y c f (inl e) = inr (y, f, e)
kept_on w x y c f (inr (z, g, e)) = inr (y, f, e ∙ ap (λ l. Some l) (format_once x y z f g))

pub kept_trans : (mode : Mode) (a b c : Option (List ℕ)) → MayBecome mode a b → MayBecome mode b c → MayBecome mode a c
kept_trans (Write w) None b c e k = subst (λ o. MayBecome (Write w) o c) e k
kept_trans (Write w) (Some x) b c (inl e) k = subst (λ o. MayBecome (Write w) o c) e k
kept_trans (Write w) (Some x) b c (inr (y, f, e)) k = kept_on w x y c f (subst (λ o. MayBecome (Write w) o c) e k)
kept_trans Check a b c e k = k ∙ e
kept_trans (Listed ending) a b c e k = k ∙ e
kept_trans Diff a b c e k = k ∙ e

-- ---- one look

written : (w : Writing) (a : Option (List ℕ)) (bytes formatted : List ℕ) → Tells a bytes → IsFormat bytes formatted → MayBecome (Write w) a (option_map (λ _. formatted) a)
written w None bytes formatted t f = refl
written w (Some x) bytes formatted t f = inr (formatted, subst (λ l. IsFormat l formatted) (sym t) f, refl)

put_kept : (w : Writing) (old : Files) (name bytes formatted other : List ℕ) → Tells (old.told name) bytes → IsFormat bytes formatted
    → MayBecome (Write w) (old.told other) ((with_bytes old name formatted).told other)
put_kept w old name bytes formatted other t f = by (bytes_eq other name) refl
  where
    by : (v : Bool) → bytes_eq other name ≡ v → MayBecome (Write w) (old.told other) (if v then option_map (λ _. formatted) (old.told other) else old.told other)
    by true e = written w (old.told other) bytes formatted (subst (λ n. Tells (old.told n) bytes) (sym ((bytes_eq-Decides other name).0 e)) t) f
    by false e = kept_same (Write w) (old.told other) (old.told other) refl

same_told : (old new : Files) (other : Name) → new ≡ old → new.told other ≡ old.told other
same_told old new other e = ap (λ (f : Files). f.told other) e

left_kept : (mode : Mode) (old new : Files) (name bytes formatted other : List ℕ) → Tells (old.told name) bytes → IsFormat bytes formatted → Left mode old new name formatted
    → MayBecome mode (old.told other) (new.told other)
left_kept (Write w) old new name bytes formatted other t f l =
    subst (λ (files : Files). MayBecome (Write w) (old.told other) (files.told other)) (sym l) (put_kept w old name bytes formatted other t f)
left_kept Check old new name bytes formatted other t f l = same_told old new other l
left_kept (Listed ending) old new name bytes formatted other t f l = same_told old new other l
left_kept Diff old new name bytes formatted other t f l = same_told old new other l

unmoved : (mode : Mode) (old new : Files) (other : Name) → new ≡ old → MayBecome mode (old.told other) (new.told other)
unmoved mode old new other e = kept_same mode (old.told other) (new.told other) (same_told old new other e)

pub visit_kept : (shows : Bool) (mode : Mode) (old new : Files) (given : Name) (name : Name) (answer : Outcome) → Visits shows mode old new given name answer → (other : Name)
    → MayBecome mode (old.told other) (new.told other)
visit_kept shows mode old new given name outcome.Formatted v other = unmoved mode old new other v.2.1
visit_kept shows mode old new given name (outcome.Changed how) v other = left_kept mode old new name v.0 v.2.1.formatted other v.1 v.2.1.is v.2.1.left
visit_kept shows mode old new given name (outcome.Differs text) v other = unmoved mode old new other v.2.1.left
visit_kept shows mode old new given name (outcome.Refused fault snippet) v other = unmoved mode old new other v.2.1
visit_kept shows mode old new given name (outcome.Failed fault) v other = unmoved mode old new other v

same_real : (old new : Files) (other : Name) → new ≡ old → new.real other ≡ old.real other
same_real old new other e = ap (λ (f : Files). f.real other) e

left_real : (mode : Mode) (old new : Files) (name formatted other : List ℕ) → Left mode old new name formatted → new.real other ≡ old.real other
left_real (Write w) old new name formatted other l = ap (λ (f : Files). f.real other) l
left_real Check old new name formatted other l = same_real old new other l
left_real (Listed ending) old new name formatted other l = same_real old new other l
left_real Diff old new name formatted other l = same_real old new other l

-- no look changes where names lead
pub visit_real : (shows : Bool) (mode : Mode) (old new : Files) (given : Name) (name : Name) (answer : Outcome) → Visits shows mode old new given name answer → (other : Name)
    → new.real other ≡ old.real other
visit_real shows mode old new given name outcome.Formatted v other = same_real old new other v.2.1
visit_real shows mode old new given name (outcome.Changed how) v other = left_real mode old new name v.2.1.formatted other v.2.1.left
visit_real shows mode old new given name (outcome.Differs text) v other = same_real old new other v.2.1.left
visit_real shows mode old new given name (outcome.Refused fault snippet) v other = same_real old new other v.2.1
visit_real shows mode old new given name (outcome.Failed fault) v other = same_real old new other v

-- ---- other files than the one that is looked at

elsewhere : (old : Files) (name formatted other : List ℕ) → ((other ≡ name) → ⊥) → (with_bytes old name formatted).told other ≡ old.told other
elsewhere old name formatted other ne = by (bytes_eq other name) refl
  where
    by : (v : Bool) → bytes_eq other name ≡ v → (if v then option_map (λ _. formatted) (old.told other) else old.told other) ≡ old.told other
    by true e = absurd (ne ((bytes_eq-Decides other name).0 e))
    by false e = refl

left_elsewhere : (mode : Mode) (old new : Files) (name formatted other : List ℕ) → Left mode old new name formatted → ((other ≡ name) → ⊥) → new.told other ≡ old.told other
left_elsewhere (Write w) old new name formatted other l ne = ap (λ (f : Files). f.told other) l ∙ elsewhere old name formatted other ne
left_elsewhere Check old new name formatted other l ne = same_told old new other l
left_elsewhere (Listed ending) old new name formatted other l ne = same_told old new other l
left_elsewhere Diff old new name formatted other l ne = same_told old new other l

pub visit_elsewhere : (shows : Bool) (mode : Mode) (old new : Files) (given : Name) (name : Name) (answer : Outcome) → Visits shows mode old new given name answer → (other : Name)
    → ((other ≡ name) → ⊥) → new.told other ≡ old.told other
visit_elsewhere shows mode old new given name outcome.Formatted v other ne = same_told old new other v.2.1
visit_elsewhere shows mode old new given name (outcome.Changed how) v other ne = left_elsewhere mode old new name v.2.1.formatted other v.2.1.left ne
visit_elsewhere shows mode old new given name (outcome.Differs text) v other ne = same_told old new other v.2.1.left
visit_elsewhere shows mode old new given name (outcome.Refused fault snippet) v other ne = same_told old new other v.2.1
visit_elsewhere shows mode old new given name (outcome.Failed fault) v other ne = same_told old new other v

-- ---- the bytes of a file that was read

tells_all : (left left' : Option (List ℕ)) (bytes : List ℕ) → Consumes left left' bytes → IsAtEnd left' → Tells left bytes
tells_all None left' bytes taken done = tt
tells_all (Some xs) None bytes taken done = absurd taken
tells_all (Some xs) (Some ys) bytes taken done = taken ∙ ap (λ l. bytes ++ l) done ∙ append-nil bytes

pub text_told : (told left left' : Option (List ℕ)) (bytes text : List ℕ) → left ≡ told → Consumes left left' bytes → Loads bytes left' (Ok text) → Tells told text × IsText text
text_told told left left' bytes text same taken l =
    (subst (λ t. Tells t text) same (subst (Tells left) (sym l.0) (tells_all left left' bytes taken l.2)), subst IsText (sym l.0) l.1)

pub fault_told : (told left left' : Option (List ℕ)) (bytes : List ℕ) (fault : Fault) → left ≡ told → Consumes left left' bytes → IsLoadFault bytes fault → (length bytes ≤ max_source → IsAtEnd left')
    → (whole : List ℕ) × Tells told whole × IsLoadFault whole fault
fault_told told left left' bytes fault same taken x done = subst (λ t. (whole : List ℕ) × Tells t whole × IsLoadFault whole fault) same (by left left' taken done)
  where
    below : (a b : ℕ) → (a ≤ b) ⊎ (b < a)
    below a b = grind arith

    by : (l l' : Option (List ℕ)) → Consumes l l' bytes → (length bytes ≤ max_source → IsAtEnd l') → (whole : List ℕ) × Tells l whole × IsLoadFault whole fault
    by None l' t d = (bytes, tt, x)
    by (Some xs) None t d = absurd t
    by (Some xs) (Some ys) t d =
        ⊎_elim (λ le. (xs, refl, subst (λ l. IsLoadFault l fault) (sym (t ∙ ap (λ l. bytes ++ l) (d le) ∙ append-nil bytes)) x))
        (λ gt. (xs, refl, subst (λ l. IsLoadFault l fault) (sym t) (too_large_too bytes ys fault gt x)))
        (below (length bytes) max_source)

pub loads_told : (told left left' : Option (List ℕ)) (bytes : List ℕ) (loaded : Result (List ℕ) LoadError) (answer : Result (List ℕ) Outcome)
    → answer ≡ outcome_by loaded → left ≡ told → Consumes left left' bytes → Loads bytes left' loaded → LoadsFile told answer
loads_told told left left' bytes loaded answer is same taken l = subst (LoadsFile told) (sym is) (by loaded l)
  where
    by : (loaded : Result (List ℕ) LoadError) → Loads bytes left' loaded → LoadsFile told (outcome_by loaded)
    by (Ok text) l = text_told told left left' bytes text same taken l
    by (Err (error.Fault fault)) l =
        let whole = fault_told told left left' bytes fault same taken l.0 l.1 in
        (whole.0, whole.1, whole.2, refl)
    by (Err error.ReadFailed) l = tt
    by (Err error.OutOfMemory) l = tt

-- ---- accepted tokens of a text

module _ (mode : Mode) (old new : Files) (given : Name) (name : Name) where
  looks_by : (s : Scanned) (answer : Outcome) → IsText s.text → Scans s.text s.tokens → IsAccepted s.tokens → Makes mode old new given name s answer → Looks false mode old new given name s.text answer
  looks_by s outcome.Formatted is scans accepted m =
      (record { text = is; source = s; accepted = accepted_as s.text s.tokens scans accepted; printed = sym m.0; fits = is.small }, m.1)
  looks_by s (outcome.Changed how) is scans accepted m = (
    m.0,
    record {
      formatted = print s.tokens;
      is = record { text = is; source = s; accepted = accepted_as s.text s.tokens scans accepted; printed = refl; fits = m.2 };
      changed = m.1;
      left = m.3;
    },
  )
  looks_by s (outcome.Differs text) is scans accepted m = (
    m.0,
    record {
      formatted = print s.tokens;
      is = record { text = is; source = s; accepted = accepted_as s.text s.tokens scans accepted; printed = refl; fits = m.2 };
      changed = m.1;
      left = m.3;
    },
    m.4,
  )
  looks_by s (outcome.Refused fault snippet) is scans accepted m = (inr (is, inr (s, accepted_as s.text s.tokens scans accepted, m.0, m.1)), m.2, ap snippet_text m.3)
  looks_by s (outcome.Failed fault) is scans accepted m = m

  not_ok : (s : Scanned) (f : Fault) → (Ok s ≡ Err f) → ⊥
  not_ok s f e = cc

  abbrev ok_or : Scanned → Result Scanned Fault → Scanned
  ok_or s (Ok u) = u
  ok_or s (Err f) = s

  pub makes_looks : (s accepted : Scanned) (answer : Outcome) → IsText s.text → Scans s.text s.tokens → Ok accepted ≡ verdict s → Makes mode old new given name accepted answer → Looks false mode old new given name s.text answer
  makes_looks s accepted answer is scans v m = by (refusal_of (lookaheads s.tokens)) refl v
    where
      by : (r : Option Refusal) → refusal_of (lookaheads s.tokens) ≡ r → Ok accepted ≡ verdict_by s r → Looks false mode old new given name s.text answer
      by None e h = looks_by s answer is scans e (subst (λ (t : Scanned). Makes mode old new given name t answer) (ap (ok_or accepted) h) m)
      by (Some r) e h = absurd (not_ok accepted (fault_at s r) h)

  pub text_looks : (text : List ℕ) (s accepted : Scanned) (answer : Outcome) → s.text ≡ text → IsText text → Scans text s.tokens → Ok accepted ≡ verdict s → Makes mode old new given name accepted answer → Looks false mode old new given name text answer
  text_looks text s accepted answer same is scans v m =
      subst (λ t. Looks false mode old new given name t answer) same
      (makes_looks s accepted answer (subst IsText (sym same) is) (subst (λ t. Scans t s.tokens) (sym same) scans) v m)

-- a look at a text whose scan failed

pub scan_looks : (mode : Mode) (files : Files) (given name text : List ℕ) (e : ScanError) (answer : Outcome) → answer ≡ outcome_of_scan e → IsText text → IsScanError text e → Looks false mode files files given name text answer
scan_looks mode files given name text (scan_error.Fault fault) answer h is (at, found, there, none) =
    let verdict_is : IsTextVerdict text (Err fault) = inl (fault.kind, at, found, (λ i. Err (record { kind = fault.kind; at = there i }))) in
    subst (Looks false mode files files given name text) (sym h) (inr (is, inl verdict_is), refl, refl)
scan_looks mode files given name text scan_error.OutOfMemory answer h is e = subst (Looks false mode files files given name text) (sym h) refl

-- ---- replacements that are asked for

module _ (given : Name) (told : Option (List ℕ)) (before after : Asked) (s : Scanned) (is : IsText s.text) (scans : Scans s.text s.tokens) (accepted : IsAccepted s.tokens) (tells : Tells told s.text) where
  asks_print : (mode : Mode) (r : Result Replaced TreeFault) → PrintAsked mode given s before after r → AsksIn mode given told before after r
  asks_print (Write w) r m = record {
    bytes = s.text;
    tells = tells;
    formatted = print s.tokens;
    is = record { text = is; source = s; accepted = accepted_as s.text s.tokens scans accepted; printed = refl; fits = m.1 };
    changed = m.0;
    asked = m.2;
  }
  asks_print Check r m = m
  asks_print (Listed ending) r m = m
  asks_print Diff r m = m

  asks_by : (mode : Mode) (answer : Outcome) → MakesAsking mode given s before after answer → Asks mode given told before after answer
  asks_by mode outcome.Formatted m = m
  asks_by mode (outcome.Changed how) m = asks_print mode (Ok how) m
  asks_by mode (outcome.Differs text) m = m
  asks_by mode (outcome.Refused fault snippet) m = m
  asks_by mode (outcome.Failed fault) (inl e) = inl e
  asks_by mode (outcome.Failed fault) (inr m) = inr (asks_print mode (Err fault) m)

module _ (mode : Mode) (given : Name) (told : Option (List ℕ)) (before after : Asked) where
  not_ok_here : (s : Scanned) (f : Fault) → (Ok s ≡ Err f) → ⊥
  not_ok_here s f e = cc

  abbrev ok_here : Scanned → Result Scanned Fault → Scanned
  ok_here s (Ok u) = u
  ok_here s (Err f) = s

  makes_asks : (s accepted : Scanned) (answer : Outcome) → IsText s.text → Scans s.text s.tokens → Tells told s.text → Ok accepted ≡ verdict s → MakesAsking mode given accepted before after answer
      → Asks mode given told before after answer
  makes_asks s accepted answer is scans tells v m = by (refusal_of (lookaheads s.tokens)) refl v
    where
      by : (r : Option Refusal) → refusal_of (lookaheads s.tokens) ≡ r → Ok accepted ≡ verdict_by s r → Asks mode given told before after answer
      by None e h = asks_by given told before after s is scans e tells mode answer (subst (λ (t : Scanned). MakesAsking mode given t before after answer) (ap (ok_here accepted) h) m)
      by (Some r) e h = absurd (not_ok_here accepted (fault_at s r) h)

  pub text_asks : (text : List ℕ) (s accepted : Scanned) (answer : Outcome) → s.text ≡ text → IsText text → Scans text s.tokens → Tells told text → Ok accepted ≡ verdict s
      → MakesAsking mode given accepted before after answer → Asks mode given told before after answer
  text_asks text s accepted answer same is scans tells v m =
      makes_asks s accepted answer (subst IsText (sym same) is) (subst (λ t. Scans t s.tokens) (sym same) scans) (subst (Tells told) (sym same) tells) v m

  pub asks_unloaded : (answer : Outcome) → LoadsFile told (Err answer) → after ≡ before → Asks mode given told before after answer
  asks_unloaded outcome.Formatted l e = absurd l
  asks_unloaded (outcome.Changed how) l e = absurd l
  asks_unloaded (outcome.Differs shown) l e = absurd l
  asks_unloaded (outcome.Refused fault snippet) l e = e
  asks_unloaded (outcome.Failed fault) l e = inl e

pub asks_loaded : (mode : Mode) (given : Name) (old mid : Files) (a b c : Asked) (answer : Outcome) → mid ≡ old → b ≡ a → Asks mode given (mid.told (mid.real given)) b c answer
    → Asks mode given (old.told (old.real given)) a c answer
asks_loaded mode given old mid a b c answer same e asks =
    subst (λ (files : Files). Asks mode given (files.told (files.real given)) a c answer) same (subst (λ (x : Asked). Asks mode given (mid.told (mid.real given)) x c answer) e asks)

-- ---- a look at a file, whether it could be read or not

-- no line is shown for bytes that are no text
no_line : (shows : Bool) (bytes : List ℕ) (fault : Fault) → IsLoadFault bytes fault → shown_line shows bytes fault ≡ []
no_line shows bytes fault l = ap (λ v. snippet_if v bytes fault.at) (about shows fault.kind l.1)
  where
    about : (v : Bool) (kind : FaultKind) → IsLoadFaultAt bytes kind l.0 → (v && is_about_line kind) ≡ false
    about false kind h = refl
    about true TooLarge h = refl
    about true InvalidUtf8 h = refl
    about true ByteOrderMark h = refl
    about true ResultTooLarge h = refl
    about true InvalidCharacter h = absurd h
    about true UnterminatedQuote h = absurd h
    about true UnterminatedComment h = absurd h
    about true UnterminatedHeredoc h = absurd h
    about true UnterminatedTemplate h = absurd h
    about true InvalidEscape h = absurd h
    about true TooDeep h = absurd h
    about true UnexpectedToken h = absurd h
    about true UnexpectedEnd h = absurd h

visits_by : (shows : Bool) (mode : Mode) (old new : Files) (given : Name) (name text : List ℕ) (answer : Outcome) → Tells (old.told name) text → Looks shows mode old new given name text answer
    → Visits shows mode old new given name answer
visits_by shows mode old new given name text outcome.Formatted t l = (text, t, l)
visits_by shows mode old new given name text (outcome.Changed how) t l = (text, t, l)
visits_by shows mode old new given name text (outcome.Differs shown) t l = (text, t, l)
visits_by shows mode old new given name text (outcome.Refused fault snippet) t l = (text, t, l)
visits_by shows mode old new given name text (outcome.Failed fault) t l = l

pub visits_loaded : (shows : Bool) (mode : Mode) (old mid new : Files) (given : Name) (name text : List ℕ) (answer : Outcome) → mid ≡ old → Tells (old.told (old.real name)) text
    → Looks shows mode mid new given (mid.real name) text answer → Visits shows mode old new given (old.real name) answer
visits_loaded shows mode old mid new given name text answer same t l =
    visits_by shows mode old new given (old.real name) text answer t (subst (λ (files : Files). Looks shows mode files new given (files.real name) text answer) same l)

pub visits_unloaded : (shows : Bool) (mode : Mode) (old new : Files) (given : Name) (name : List ℕ) (answer : Outcome) → new ≡ old → LoadsFile (old.told name) (Err answer)
    → Visits shows mode old new given name answer
visits_unloaded shows mode old new given name outcome.Formatted same l = absurd l
visits_unloaded shows mode old new given name (outcome.Changed how) same l = absurd l
visits_unloaded shows mode old new given name (outcome.Differs shown) same l = absurd l
visits_unloaded shows mode old new given name (outcome.Refused fault snippet) same l = (l.0, l.1, (inl l.2, same, ap snippet_text l.3 ∙ sym (no_line shows l.0 fault l.2)))
visits_unloaded shows mode old new given name (outcome.Failed fault) same l = same

-- ---- with the line of a fault

module _ (shows : Bool) (mode : Mode) (old new : Files) (given : Name) (name text : List ℕ) where
  pub completed_looks : (before after : Outcome) → Looks false mode old new given name text before → Completes shows text before after → Looks shows mode old new given name text after
  completed_looks outcome.Formatted after l e = subst (Looks shows mode old new given name text) (sym e) l
  completed_looks (outcome.Changed how) after l e = subst (Looks shows mode old new given name text) (sym e) l
  completed_looks (outcome.Differs shown) after l e = subst (Looks shows mode old new given name text) (sym e) l
  completed_looks (outcome.Failed fault) after l e = subst (Looks shows mode old new given name text) (sym e) l
  completed_looks (outcome.Refused fault was) (outcome.Refused same snippet) l e =
      (subst (IsFault text) (sym e.0) l.0, l.1, e.1 ∙ ap (shown_line shows text) (sym e.0))
  completed_looks (outcome.Refused fault was) (outcome.Failed why) l e = l.1
  completed_looks (outcome.Refused fault was) outcome.Formatted l e = absurd e
  completed_looks (outcome.Refused fault was) (outcome.Changed how) l e = absurd e
  completed_looks (outcome.Refused fault was) (outcome.Differs shown) l e = absurd e

pub completed_asks : (shows : Bool) (mode : Mode) (given text : List ℕ) (told : Option (List ℕ)) (a b : Asked) (before after : Outcome) → Asks mode given told a b before → Completes shows text before after
    → Asks mode given told a b after
completed_asks shows mode given text told a b outcome.Formatted after l e = subst (Asks mode given told a b) (sym e) l
completed_asks shows mode given text told a b (outcome.Changed how) after l e = subst (Asks mode given told a b) (sym e) l
completed_asks shows mode given text told a b (outcome.Differs shown) after l e = subst (Asks mode given told a b) (sym e) l
completed_asks shows mode given text told a b (outcome.Failed fault) after l e = subst (Asks mode given told a b) (sym e) l
completed_asks shows mode given text told a b (outcome.Refused fault was) (outcome.Refused same snippet) l e = l
completed_asks shows mode given text told a b (outcome.Refused fault was) (outcome.Failed why) l e = inl l
completed_asks shows mode given text told a b (outcome.Refused fault was) outcome.Formatted l e = absurd e
completed_asks shows mode given text told a b (outcome.Refused fault was) (outcome.Changed how) l e = absurd e
completed_asks shows mode given text told a b (outcome.Refused fault was) (outcome.Differs shown) l e = absurd e

-- a refused file is no failed look
refused_notes : (a b : Faults) (fault : Fault) (was : Option (Vec ℕ Global)) → Notes a b (outcome.Refused fault was) → b ≡ a
refused_notes a b fault was n = by n.is
  where
    by : (b ≡ a) ⊎ ((None ≡ Some OutOfMemory) × (b ≡ a)) → b ≡ a
    by (inl e) = e
    by (inr e) = e.1

pub completed_notes : (shows : Bool) (text : List ℕ) (a b : Faults) (before after : Outcome) → Notes a b before → Completes shows text before after → Notes a b after
completed_notes shows text a b outcome.Formatted after l e = subst (Notes a b) (sym e) l
completed_notes shows text a b (outcome.Changed how) after l e = subst (Notes a b) (sym e) l
completed_notes shows text a b (outcome.Differs shown) after l e = subst (Notes a b) (sym e) l
completed_notes shows text a b (outcome.Failed fault) after l e = subst (Notes a b) (sym e) l
completed_notes shows text a b (outcome.Refused fault was) (outcome.Refused same snippet) l e = record { is = inl (refused_notes a b fault was l) }
completed_notes shows text a b (outcome.Refused fault was) (outcome.Failed why) l e = record { is = inr (ap (λ f. Some f) e, refused_notes a b fault was l) }
completed_notes shows text a b (outcome.Refused fault was) outcome.Formatted l e = absurd e
completed_notes shows text a b (outcome.Refused fault was) (outcome.Changed how) l e = absurd e
completed_notes shows text a b (outcome.Refused fault was) (outcome.Differs shown) l e = absurd e

-- ---- settled files

pub no_format : (x y : List ℕ) (f : Fault) → IsFault x f → IsFormat x y → ⊥
no_format x y f (inl l) g = text_or_fault x f g.text l
no_format x y f (inr (is, inl v)) g = not_both g.source f (one_verdict one_kind x (Ok g.source) (Err f) g.accepted v)
no_format x y f (inr (is, inr (s, v, large, e))) g =
    let same : length y ≡ length (print s.tokens) = ap length g.printed ∙ ap (λ o. length (print (source_or s o).tokens)) (one_verdict one_kind x (Ok g.source) (Ok s) g.accepted v) in
    omega (arith, same, large, g.fits)

settled_on : (w : Writing) (x y : List ℕ) (c : Option (List ℕ)) → IsFormat x y → MayBecome (Write w) (Some y) c → Settled (Write w) (Some x) c
settled_on w x y c f (inl e) = inl (y, f, e)
settled_on w x y c f (inr (z, g, e)) = inl (y, f, e ∙ ap (λ l. Some l) (format_once x y z f g))

refused_on : (w : Writing) (x : List ℕ) (c : Option (List ℕ)) (f : Fault) → IsFault x f → MayBecome (Write w) (Some x) c → Settled (Write w) (Some x) c
refused_on w x c f is (inl e) = inr (f, is, e)
refused_on w x c f is (inr (z, g, e)) = absurd (no_format x z f is g)

pub settled_kept : (mode : Mode) (a b c : Option (List ℕ)) → Settled mode a b → MayBecome mode b c → Settled mode a c
settled_kept (Write w) None b c s k = tt
settled_kept (Write w) (Some x) b c (inl (y, f, e)) k = settled_on w x y c f (subst (λ o. MayBecome (Write w) o c) e k)
settled_kept (Write w) (Some x) b c (inr (f, is, e)) k = refused_on w x c f is (subst (λ o. MayBecome (Write w) o c) e k)
settled_kept Check a b c s k = tt
settled_kept (Listed ending) a b c s k = tt
settled_kept Diff a b c s k = tt

own_format : (w : Writing) (a b : Option (List ℕ)) (bytes y : List ℕ) → Tells a bytes → IsFormat bytes y → b ≡ option_map (λ _. y) a → Settled (Write w) a b
own_format w None b bytes y t f e = tt
own_format w (Some x) b bytes y t f e = inl (y, subst (λ l. IsFormat l y) (sym t) f, e)

same_format : (w : Writing) (a b : Option (List ℕ)) (bytes : List ℕ) → Tells a bytes → IsFormat bytes bytes → b ≡ a → Settled (Write w) a b
same_format w None b bytes t f e = tt
same_format w (Some x) b bytes t f e = inl (x, subst (λ l. IsFormat l l) (sym t) f, e)

own_fault : (w : Writing) (a b : Option (List ℕ)) (bytes : List ℕ) (fault : Fault) → Tells a bytes → IsFault bytes fault → b ≡ a → Settled (Write w) a b
own_fault w None b bytes fault t f e = tt
own_fault w (Some x) b bytes fault t f e = inr (fault, subst (λ l. IsFault l fault) (sym t) f, e)

put_here : (old : Files) (name bytes : List ℕ) → (with_bytes old name bytes).told name ≡ option_map (λ _. bytes) (old.told name)
put_here old name bytes = ap (λ b. if b then option_map (λ _. bytes) (old.told name) else old.told name) ((bytes_eq-Decides name name).1 refl)

visit_writes : (shows : Bool) (w : Writing) (old new : Files) (given : Name) (name : Name) (answer : Outcome) → Visits shows (Write w) old new given name answer → is_failed answer ≡ false
    → Settled (Write w) (old.told name) (new.told name)
visit_writes shows w old new given name outcome.Formatted v good = same_format w (old.told name) (new.told name) v.0 v.1 v.2.0 (same_told old new name v.2.1)
visit_writes shows w old new given name (outcome.Changed how) v good =
    own_format w (old.told name) (new.told name) v.0 v.2.1.formatted v.1 v.2.1.is (ap (λ (f : Files). f.told name) v.2.1.left ∙ put_here old name v.2.1.formatted)
visit_writes shows w old new given name (outcome.Differs text) v good = absurd (no v.2.0)
  where
    no : Write w ≡ Diff → ⊥
    no h = cc
visit_writes shows w old new given name (outcome.Refused fault snippet) v good = own_fault w (old.told name) (new.told name) v.0 fault v.1 v.2.0 (same_told old new name v.2.1)
visit_writes shows w old new given name (outcome.Failed fault) v good = absurd (no good)
  where
    no : true ≡ false → ⊥
    no h = cc

pub visit_settled : (shows : Bool) (mode : Mode) (old new : Files) (given : Name) (name : Name) (answer : Outcome) → Visits shows mode old new given name answer → is_failed answer ≡ false
    → Settled mode (old.told name) (new.told name)
visit_settled shows (Write w) old new given name answer v good = visit_writes shows w old new given name answer v good
visit_settled shows Check old new given name answer v good = tt
visit_settled shows (Listed ending) old new given name answer v good = tt
visit_settled shows Diff old new given name answer v good = tt

-- one more of the files with these names is settled
module _ {X : Type 0} (mode : Mode) (name : X → List ℕ) (first old new : Name → Option (List ℕ)) (kept : (n : Name) → MayBecome mode (old n) (new n)) where
  pub all_settled : (xs : List X) (i : ℕ) (x : X) → i < length xs → All (λ x. Settled mode (first (name x)) (old (name x))) (take i xs)
      → Settled mode (first (name (get_or xs i x))) (new (name (get_or xs i x))) → All (λ x. Settled mode (first (name x)) (new (name x))) (take (i + 1) xs)
  all_settled xs i x lt all here =
      All-more (λ x. Settled mode (first (name x)) (new (name x))) xs i x lt
      (All-weaker (λ x. Settled mode (first (name x)) (old (name x))) (λ x. Settled mode (first (name x)) (new (name x))) (λ x s. settled_kept mode (first (name x)) (old (name x)) (new (name x)) s (kept (name x))) (take i xs) all)
      here

pub settled_after : (mode : Mode) (a b c : Option (List ℕ)) → MayBecome mode a b → Settled mode b c → Settled mode a c
settled_after (Write w) None b c k s = tt
settled_after (Write w) (Some x) b c (inl e) s = subst (λ o. Settled (Write w) o c) e s
settled_after (Write w) (Some x) b c (inr (y, f, e)) s = by (subst (λ o. Settled (Write w) o c) e s)
  where
    by : Settled (Write w) (Some y) c → Settled (Write w) (Some x) c
    by (inl (z, g, h)) = inl (y, f, h ∙ ap (λ l. Some l) (format_once x y z f g))
    by (inr (fault, is, h)) = inl (y, f, h)
settled_after Check a b c k s = tt
settled_after (Listed ending) a b c k s = tt
settled_after Diff a b c k s = tt

-- ---- whole runs

-- a run over files, after a walk that changed nothing
pub kept_from : (mode : Mode) (old mid new : Files) → mid ≡ old → ((name : Name) → MayBecome mode (mid.told name) (new.told name)) → (name : Name) → MayBecome mode (old.told name) (new.told name)
kept_from mode old mid new same k name = subst (λ (files : Files). MayBecome mode (files.told name) (new.told name)) same (k name)

pub kept_still : (mode : Mode) (old new : Files) → new ≡ old → (name : Name) → MayBecome mode (old.told name) (new.told name)
kept_still mode old new same name = unmoved mode old new name same

pub safe_same : (a b : Option (List ℕ)) → b ≡ a → IsSafe a b
safe_same None b e = e
safe_same (Some x) b e = inl e

pub safe_kept : (mode : Mode) (a b : Option (List ℕ)) → MayBecome mode a b → IsSafe a b
safe_kept (Write w) a b k = k
safe_kept Check a b k = safe_same a b k
safe_kept (Listed ending) a b k = safe_same a b k
safe_kept Diff a b k = safe_same a b k

-- ---- failed looks have real faults

pub notes_call : (before after : Faults) (answer : Outcome) → after ≡ with_fault before (failure_of answer) → Notes before after answer
notes_call before after answer e = record { is = inl e }

pub notes_fault : (before after : Faults) (fault : TreeFault) → after ≡ with_fault before (Some fault) → Notes before after (outcome.Failed fault)
notes_fault before after fault e = record { is = inl e }

pub notes_memory : (before after : Faults) (fault : TreeFault) → after ≡ before → fault ≡ OutOfMemory → Notes before after (outcome.Failed fault)
notes_memory before after fault e m = record { is = inr (ap (λ f. Some f) m, e) }

pub notes_shown : (before after : Faults) (given : Name) (s : Scanned) (answer : Outcome) → after ≡ before → IsShown given s answer → Notes before after answer
notes_shown before after given s outcome.Formatted e shown = absurd shown
notes_shown before after given s (outcome.Changed how) e shown = absurd shown
notes_shown before after given s (outcome.Differs text) e shown = record { is = inl e }
notes_shown before after given s (outcome.Refused fault snippet) e shown = absurd shown
notes_shown before after given s (outcome.Failed fault) e shown = notes_memory before after fault e shown

-- the faults of a load are those of its reader, which was given back
pub notes_load : (before after : Faults) (failed : Bool) (loaded : Result (List ℕ) LoadError) (answer : Result (List ℕ) Outcome)
    → after ≡ with_fault before (fault_of_reader failed) → failed ≡ is_failed_load loaded → answer ≡ outcome_by loaded → LoadNotes before after answer
notes_load before after failed loaded answer e f is = subst (LoadNotes before after) (sym is) (by loaded (e ∙ ap (λ v. with_fault before (fault_of_reader v)) f))
  where
    by : (loaded : Result (List ℕ) LoadError) → after ≡ with_fault before (fault_of_reader (is_failed_load loaded)) → LoadNotes before after (outcome_by loaded)
    by (Ok text) e = e
    by (Err (error.Fault fault)) e = record { is = inl e }
    by (Err error.ReadFailed) e = record { is = inl e }
    by (Err error.OutOfMemory) e = record { is = inr (refl, e) }
