-- Unless something fails, the outputs and the changes of a run are a function of the files.
use Rattle.std.proofs.Common.{◌≡◌, ◌∙◌, ◌⊎◌, ◌++◌, ◌∷◌, [], ◌<◌, ℕ, Bool, true, false, List, Option, Some, None, ap, append-nil, inl, inr, length, map, refl, subst, sym}
use Rattle.std.specs.Prelude.{◌≢◌, ◌||◌, IsSome, Result, Ok, Err, fold, if◌then◌else◌}
use Rattle.std.specs.List.{list_any}
use Rattle.std.proofs.lemmas.List.Elements.{All-head, All-tail, All-weaker}
use Rattle.command_line.specs.Rows.{End}
use Rattle.hcl_source.specs.Devices.{Tells}
use Rattle.hcl_source.specs.declared.fault.Fault.{Fault}
use Rattle.hcl_source.proofs.LoadLemmas.{one_load_fault, text_or_fault}
use Rattle.hcl_tokens.specs.Scanned.{Scanned}
use Rattle.hcl_scan.proofs.SpellingLemmas.{one_kind}
use Rattle.hcl_grammar.proofs.VerdictLemmas.{not_both, one_verdict, source_or}
use Rattle.hcl_layout.specs.Print.{print}
use Rattle.file_tree.specs.Files.{Files, Name, with_bytes}
use Rattle.tree_format.specs.States.{State}
use Rattle.file_tree.specs.declared.fault.TreeFault.{TreeFault}
use Rattle.file_tree.specs.declared.tree.Replaced.{Replaced}
use Rattle.file_tree.specs.declared.tree.Replaced.TheVariants.{Kept as AllKept, Narrowed}
use Rattle.file_tree.specs.declared.walk.Found.{Found}
use Rattle.tree_format.specs.GoodRuns.{AreTold, is_narrowed}
use Rattle.text_format.specs.Format.{IsFault, IsFormat, IsTextFault}
use Rattle.tree_format.specs.Looks.{Left, Looks, Visits, shown_diff}
use Rattle.tree_format.specs.Refusals.{shown_line}
use Rattle.command_line.specs.Rows.{Row}
use Rattle.tree_format.specs.Reports.{refused_words, report_of, worse_status, worst_status}
use Rattle.tree_format.specs.Runs.{IsRun, MayBecome, LooksAtAll, SeesBy, is_failed, reports_of}
use Rattle.tree_format.specs.declared.mode.Mode.{Mode}
use Rattle.tree_format.specs.declared.mode.Mode.TheVariants.{Write, Check, List as Listed, Diff}
use Rattle.tree_format.specs.declared.outcome.Outcome.{Outcome}
use Rattle.tree_format.specs.declared.outcome.Outcome.TheVariants as outcome
use Rattle.tree_format.proofs.KeptFormatLemmas.{no_format, visit_kept, visit_real}
use Rattle.tree_format.proofs.FileRunLemmas.{first_good, good_answer, second_good}

-- ---- bytes have one format, or one fault

one_format : (x y z : List ℕ) → IsFormat x y → IsFormat x z → y ≡ z
one_format x y z f g =
    f.printed ∙ ap (λ o. print (source_or f.source o).tokens) (one_verdict one_kind x (Ok f.source) (Ok g.source) f.accepted g.accepted) ∙ sym g.printed

abbrev fault_or : Fault → Result Scanned Fault → Fault
fault_or other (Ok s) = other
fault_or other (Err fault) = fault

one_text_fault : (x : List ℕ) (f g : Fault) → IsTextFault x f → IsTextFault x g → f ≡ g
one_text_fault x f g (inl v) (inl w) = ap (fault_or f) (one_verdict one_kind x (Err f) (Err g) v w)
one_text_fault x f g (inl v) (inr w) = absurd (not_both w.0 f (one_verdict one_kind x (Ok w.0) (Err f) w.1 v))
one_text_fault x f g (inr v) (inl w) = absurd (not_both v.0 g (one_verdict one_kind x (Ok v.0) (Err g) v.1 w))
one_text_fault x f g (inr v) (inr w) = v.3 ∙ sym w.3

one_reason : (x : List ℕ) (f g : Fault) → IsFault x f → IsFault x g → f ≡ g
one_reason x f g (inl l) (inl m) = one_load_fault x f g l m
one_reason x f g (inl l) (inr m) = absurd (text_or_fault x f m.0 l)
one_reason x f g (inr l) (inl m) = absurd (text_or_fault x g l.0 m)
one_reason x f g (inr l) (inr m) = one_text_fault x f g l.1 m.1

-- ---- one look

one_left : (mode : Mode) (old new new' : Files) (name y z : List ℕ) → y ≡ z → Left mode old new name y → Left mode old new' name z → new ≡ new'
one_left (Write w) old new new' name y z e l m = l ∙ ap (with_bytes old name) e ∙ sym m
one_left Check old new new' name y z e l m = l ∙ sym m
one_left (Listed ending) old new new' name y z e l m = l ∙ sym m
one_left Diff old new new' name y z e l m = l ∙ sym m

-- an answer that another look needn't repeat: the look failed, or the rights to the file were narrowed
abbrev is_uneven : Outcome → Bool
is_uneven (outcome.Failed fault) = true
is_uneven (outcome.Changed Narrowed) = true
is_uneven (outcome.Changed AllKept) = false
is_uneven outcome.Formatted = false
is_uneven (outcome.Differs text) = false
is_uneven (outcome.Refused fault snippet) = false

even_answer : (answer : Outcome) → is_failed answer ≡ false → is_narrowed answer ≡ false → is_uneven answer ≡ false
even_answer (outcome.Failed fault) e f = e
even_answer (outcome.Changed Narrowed) e f = f
even_answer (outcome.Changed AllKept) e f = refl
even_answer outcome.Formatted e f = refl
even_answer (outcome.Differs text) e f = refl
even_answer (outcome.Refused fault snippet) e f = refl

no_failure : {X : Type 0} → true ≡ false → X
no_failure e = absurd (cc)

module _ (shows : Bool) (mode : Mode) (old new new' : Files) (given name bytes : List ℕ) where
  abbrev Same : Outcome → Outcome → Type 0
  Same answer other = (report_of mode given answer ≡ report_of mode given other) × (new ≡ new')

  one_look : (answer other : Outcome) → Looks shows mode old new given name bytes answer → Looks shows mode old new' given name bytes other → is_uneven answer ≡ false → is_uneven other ≡ false
      → Same answer other
  one_look (outcome.Failed fault) other l m good good' = no_failure good
  one_look outcome.Formatted (outcome.Failed fault) l m good good' = no_failure good'
  one_look (outcome.Changed how) (outcome.Failed fault) l m good good' = no_failure good'
  one_look (outcome.Differs text) (outcome.Failed fault) l m good good' = no_failure good'
  one_look (outcome.Refused f snippet) (outcome.Failed fault) l m good good' = no_failure good'
  one_look outcome.Formatted outcome.Formatted l m good good' = (refl, l.1 ∙ sym m.1)
  one_look outcome.Formatted (outcome.Changed how) l m good good' = absurd (m.1.changed (one_format bytes m.1.formatted bytes m.1.is l.0))
  one_look outcome.Formatted (outcome.Differs text) l m good good' = absurd (m.1.changed (one_format bytes m.1.formatted bytes m.1.is l.0))
  one_look outcome.Formatted (outcome.Refused fault snippet) l m good good' = absurd (no_format bytes bytes fault m.0 l.0)
  one_look (outcome.Changed how) outcome.Formatted l m good good' = absurd (l.1.changed (one_format bytes l.1.formatted bytes l.1.is m.0))
  one_look (outcome.Changed Narrowed) (outcome.Changed other) l m good good' = no_failure good
  one_look (outcome.Changed AllKept) (outcome.Changed Narrowed) l m good good' = no_failure good'
  one_look (outcome.Changed AllKept) (outcome.Changed AllKept) l m good good' =
      (refl, one_left mode old new new' name l.1.formatted m.1.formatted (one_format bytes l.1.formatted m.1.formatted l.1.is m.1.is) l.1.left m.1.left)
  one_look (outcome.Changed how) (outcome.Differs text) l m good good' = absurd (l.0 m.0)
  one_look (outcome.Changed how) (outcome.Refused fault snippet) l m good good' = absurd (no_format bytes l.1.formatted fault m.0 l.1.is)
  one_look (outcome.Differs text) outcome.Formatted l m good good' = absurd (l.1.changed (one_format bytes l.1.formatted bytes l.1.is m.0))
  one_look (outcome.Differs text) (outcome.Changed how) l m good good' = absurd (m.0 l.0)
  one_look (outcome.Differs text) (outcome.Differs other) l m good good' =
      let same = l.2 ∙ ap (shown_diff given bytes) (one_format bytes l.1.formatted m.1.formatted l.1.is m.1.is) ∙ sym m.2 in
      ((λ i. record { out = same i; err = []; status = 3 }), l.1.left ∙ sym m.1.left)
  one_look (outcome.Differs text) (outcome.Refused fault snippet) l m good good' = absurd (no_format bytes l.1.formatted fault m.0 l.1.is)
  one_look (outcome.Refused fault snippet) outcome.Formatted l m good good' = absurd (no_format bytes bytes fault l.0 m.0)
  one_look (outcome.Refused fault snippet) (outcome.Changed how) l m good good' = absurd (no_format bytes m.1.formatted fault l.0 m.1.is)
  one_look (outcome.Refused fault snippet) (outcome.Differs text) l m good good' = absurd (no_format bytes m.1.formatted fault l.0 m.1.is)
  one_look (outcome.Refused fault snippet) (outcome.Refused other same) l m good good' =
      let reason = one_reason bytes fault other l.0 m.0 in
      let shown = l.2 ∙ ap (shown_line shows bytes) reason ∙ sym m.2 in
      ((λ i. record { out = []; err = refused_words given (reason i) (shown i); status = 2 }), l.1 ∙ sym m.1)

-- ---- a look at a file whose bytes the device tells

told_bytes : (told : Option (List ℕ)) (x y : List ℕ) → told ≡ Some x → Tells told y → y ≡ x
told_bytes told x y e t = sym (subst (λ o. Tells o y) e t)

looks_of : (shows : Bool) (mode : Mode) (old new : Files) (given name bytes : List ℕ) (answer : Outcome) → old.told name ≡ Some bytes → Visits shows mode old new given name answer
    → Looks shows mode old new given name bytes answer
looks_of shows mode old new given name bytes outcome.Formatted e v = subst (λ b. Looks shows mode old new given name b outcome.Formatted) (told_bytes (old.told name) bytes v.0 e v.1) v.2
looks_of shows mode old new given name bytes (outcome.Changed how) e v = subst (λ b. Looks shows mode old new given name b (outcome.Changed how)) (told_bytes (old.told name) bytes v.0 e v.1) v.2
looks_of shows mode old new given name bytes (outcome.Differs text) e v =
    subst (λ b. Looks shows mode old new given name b (outcome.Differs text)) (told_bytes (old.told name) bytes v.0 e v.1) v.2
looks_of shows mode old new given name bytes (outcome.Refused fault snippet) e v =
    subst (λ b. Looks shows mode old new given name b (outcome.Refused fault snippet)) (told_bytes (old.told name) bytes v.0 e v.1) v.2
looks_of shows mode old new given name bytes (outcome.Failed fault) e v = v

one_visit : (shows : Bool) (mode : Mode) (old new new' : Files) (given name : List ℕ) (answer other : Outcome) → IsSome (old.told name) → Visits shows mode old new given name answer
    → Visits shows mode old new' given name other → is_uneven answer ≡ false → is_uneven other ≡ false
    → (report_of mode given answer ≡ report_of mode given other) × (new ≡ new')
one_visit shows mode old new new' given name answer other some v w good good' = by (old.told name) refl some
  where
    by : (told : Option (List ℕ)) → old.told name ≡ told → IsSome told → (report_of mode given answer ≡ report_of mode given other) × (new ≡ new')
    by None e some = absurd (cc)
    by (Some bytes) e some =
        one_look shows mode old new new' given name bytes answer other (looks_of shows mode old new given name bytes answer e v) (looks_of shows mode old new' given name bytes other e w) good good'

-- ---- the files after looks, whatever replacements they ask for

abbrev VisitsBy : Bool → Mode → Name → Option TreeFault → Outcome → State → State → Type 0
VisitsBy shows mode name (Some fault) answer before after = (answer ≡ outcome.Failed fault) × (after ≡ before)
VisitsBy shows mode name None answer before after = Visits shows mode before.files after.files name (before.files.real name) answer

abbrev Visited : Bool → Mode → List Found → List Outcome → State → State → Type 0
Visited shows mode [] [] before after = after ≡ before
Visited shows mode [] (answer ∷ answers) before after = ⊥
Visited shows mode (found ∷ more) [] before after = ⊥
Visited shows mode (found ∷ more) (answer ∷ answers) before after = (between : State) × VisitsBy shows mode found.name.items found.fault answer before between × Visited shows mode more answers between after

visits_of : (shows : Bool) (mode : Mode) (name : Name) (fault : Option TreeFault) (answer : Outcome) (a b : State) → SeesBy shows mode name fault answer a b → VisitsBy shows mode name fault answer a b
visits_of shows mode name (Some fault) answer a b s = s
visits_of shows mode name None answer a b s = s.0

visited : (shows : Bool) (mode : Mode) (seen : List Found) (answers : List Outcome) (a b : State) → LooksAtAll shows mode seen answers a b → Visited shows mode seen answers a b
visited shows mode [] [] a b l = l
visited shows mode [] (x ∷ xs) a b l = absurd l
visited shows mode (f ∷ seen) [] a b l = absurd l
visited shows mode (f ∷ seen) (x ∷ xs) a b l = (l.0, visits_of shows mode f.name.items f.fault x a l.0 l.1, visited shows mode seen xs l.0 b l.2)

one_seen_by : (shows : Bool) (mode : Mode) (name : Name) (fault : Option TreeFault) (answer other : Outcome) (a b a' b' : State) → IsSome (a.files.told (a.files.real name)) → a'.files ≡ a.files
    → VisitsBy shows mode name fault answer a b → VisitsBy shows mode name fault other a' b' → is_uneven answer ≡ false → is_uneven other ≡ false
    → (report_of mode name answer ≡ report_of mode name other) × (b.files ≡ b'.files)
one_seen_by shows mode name (Some fault) answer other a b a' b' some same s t good good' = no_failure (sym (ap is_uneven s.0) ∙ good)
one_seen_by shows mode name None answer other a b a' b' some same s t good good' =
    one_visit shows mode a.files b.files b'.files name (a.files.real name) answer other some s
    (subst (λ (files : Files). Visits shows mode files b'.files name (files.real name) other) same t) good good'

-- ---- a device that tells the bytes of a file tells them afterwards too

kept_some : (mode : Mode) (x y : Option (List ℕ)) → MayBecome mode x y → IsSome x → IsSome y
kept_some (Write w) None y k some = absurd (cc)
kept_some (Write w) (Some x) y (inl e) some = subst (λ o. IsSome o) (sym e) refl
kept_some (Write w) (Some x) y (inr f) some = subst (λ o. IsSome o) (sym f.2) refl
kept_some Check x y k some = subst (λ o. IsSome o) (sym k) some
kept_some (Listed ending) x y k some = subst (λ o. IsSome o) (sym k) some
kept_some Diff x y k some = subst (λ o. IsSome o) (sym k) some

told_after_visit : (shows : Bool) (mode : Mode) (old new : Files) (given name other : List ℕ) (answer : Outcome) → Visits shows mode old new given name answer → IsSome (old.told (old.real other))
    → IsSome (new.told (new.real other))
told_after_visit shows mode old new given name other answer v some =
    subst (λ n. IsSome (new.told n)) (sym (visit_real shows mode old new given name answer v other))
    (kept_some mode (old.told (old.real other)) (new.told (old.real other)) (visit_kept shows mode old new given name answer v (old.real other)) some)

told_after : (shows : Bool) (mode : Mode) (name : Name) (fault : Option TreeFault) (answer : Outcome) (a b : State) (other : Name) → VisitsBy shows mode name fault answer a b
    → IsSome (a.files.told (a.files.real other)) → IsSome (b.files.told (b.files.real other))
told_after shows mode name (Some fault) answer a b other s some = subst (λ (state : State). IsSome (state.files.told (state.files.real other))) (sym s.1) some
told_after shows mode name None answer a b other s some = told_after_visit shows mode a.files b.files name (a.files.real name) other answer s some

-- ---- one look after another

first_false : (v w : Bool) → (v || w) ≡ false → v ≡ false
first_false true w e = e
first_false false w e = refl

second_false : (v w : Bool) → (v || w) ≡ false → w ≡ false
second_false true w e = absurd (cc)
second_false false w e = e

one_looked : (shows : Bool) (mode : Mode) (seen : List Found) (answers others : List Outcome) (a b a' b' : State) → AreTold a.files seen → a'.files ≡ a.files → Visited shows mode seen answers a b → Visited shows mode seen others a' b'
    → list_any is_uneven answers ≡ false → list_any is_uneven others ≡ false
    → (reports_of mode seen answers ≡ reports_of mode seen others) × (b.files ≡ b'.files)
one_looked shows mode [] [] [] a b a' b' told same l m good good' = (refl, ap (λ (s : State). s.files) l ∙ sym same ∙ sym (ap (λ (s : State). s.files) m))
one_looked shows mode [] (x ∷ xs) others a b a' b' told same l m good good' = absurd l
one_looked shows mode [] [] (y ∷ ys) a b a' b' told same l m good good' = absurd m
one_looked shows mode (f ∷ seen) [] others a b a' b' told same l m good good' = absurd l
one_looked shows mode (f ∷ seen) (x ∷ xs) [] a b a' b' told same l m good good' = absurd m
one_looked shows mode (f ∷ seen) (x ∷ xs) (y ∷ ys) a b a' b' told same l m good good' =
    let one = one_seen_by shows mode f.name.items f.fault x y a l.0 a' m.0 (All-head (λ g. IsSome (a.files.told (a.files.real g.name.items))) f seen told) same l.1 m.1 (first_false (is_uneven x) (list_any is_uneven xs) good)
    (first_false (is_uneven y) (list_any is_uneven ys) good') in
    let rest = one_looked shows mode seen xs ys l.0 b m.0 b'
    (All-weaker (λ g. IsSome (a.files.told (a.files.real g.name.items))) (λ g. IsSome (l.0.files.told (l.0.files.real g.name.items)))
    (λ g some. told_after shows mode f.name.items f.fault x a l.0 g.name.items l.1 some) seen (All-tail (λ g. IsSome (a.files.told (a.files.real g.name.items))) f seen told))
    (sym one.1) l.2 m.2 (second_false (is_uneven x) (list_any is_uneven xs) good) (second_false (is_uneven y) (list_any is_uneven ys) good') in
    ((λ i. one.0 i ∷ rest.0 i), rest.1)

even_answers : (answers : List Outcome) → list_any is_failed answers ≡ false → list_any is_narrowed answers ≡ false → list_any is_uneven answers ≡ false
even_answers [] e f = refl
even_answers (x ∷ xs) e f =
    ap (λ v. v || list_any is_uneven xs) (even_answer x (first_false (is_failed x) (list_any is_failed xs) e) (first_false (is_narrowed x) (list_any is_narrowed xs) f))
    ∙ even_answers xs (second_false (is_failed x) (list_any is_failed xs) e) (second_false (is_narrowed x) (list_any is_narrowed xs) f)

-- ---- reports and statuses of runs that may have narrowed rights

abbrev plain : Outcome → Outcome
plain (outcome.Changed how) = outcome.Changed AllKept
plain outcome.Formatted = outcome.Formatted
plain (outcome.Differs text) = outcome.Differs text
plain (outcome.Refused fault snippet) = outcome.Refused fault snippet
plain (outcome.Failed fault) = outcome.Failed fault

plain_seen : (shows : Bool) (mode : Mode) (name : Name) (fault : Option TreeFault) (answer : Outcome) (a b : State) → VisitsBy shows mode name fault answer a b → VisitsBy shows mode name fault (plain answer) a b
plain_seen shows mode name (Some fault) answer a b s = (ap plain s.0, s.1)
plain_seen shows mode name None (outcome.Changed how) a b s = s
plain_seen shows mode name None outcome.Formatted a b s = s
plain_seen shows mode name None (outcome.Differs text) a b s = s
plain_seen shows mode name None (outcome.Refused fault snippet) a b s = s
plain_seen shows mode name None (outcome.Failed fault) a b s = s

plain_looked : (shows : Bool) (mode : Mode) (seen : List Found) (answers : List Outcome) (a b : State) → Visited shows mode seen answers a b → Visited shows mode seen (map plain answers) a b
plain_looked shows mode [] [] a b l = l
plain_looked shows mode [] (x ∷ xs) a b l = absurd l
plain_looked shows mode (f ∷ seen) [] a b l = absurd l
plain_looked shows mode (f ∷ seen) (x ∷ xs) a b l = (l.0, plain_seen shows mode f.name.items f.fault x a l.0 l.1, plain_looked shows mode seen xs l.0 b l.2)

plain_even : (answers : List Outcome) → list_any is_uneven (map plain answers) ≡ list_any is_failed answers
plain_even [] = refl
plain_even (x ∷ xs) = (λ i. one x i || plain_even xs i)
  where
    one : (x : Outcome) → is_uneven (plain x) ≡ is_failed x
    one (outcome.Changed how) = refl
    one outcome.Formatted = refl
    one (outcome.Differs text) = refl
    one (outcome.Refused fault snippet) = refl
    one (outcome.Failed fault) = refl

changed_out : (mode : Mode) (how : Replaced) (name : Name) → (report_of mode name (outcome.Changed how)).out ≡ (report_of mode name (outcome.Changed AllKept)).out
changed_out (Write w) how name = refl
changed_out Check how name = refl
changed_out (Listed ending) how name = refl
changed_out Diff how name = refl

changed_status : (mode : Mode) (how : Replaced) (name : Name) → (report_of mode name (outcome.Changed how)).status ≡ (report_of mode name (outcome.Changed AllKept)).status
changed_status (Write w) how name = refl
changed_status Check how name = refl
changed_status (Listed ending) how name = refl
changed_status Diff how name = refl

plain_out : (mode : Mode) (name : Name) (x : Outcome) → (report_of mode name x).out ≡ (report_of mode name (plain x)).out
plain_out mode name (outcome.Changed how) = changed_out mode how name
plain_out mode name outcome.Formatted = refl
plain_out mode name (outcome.Differs text) = refl
plain_out mode name (outcome.Refused fault snippet) = refl
plain_out mode name (outcome.Failed fault) = refl

plain_status : (mode : Mode) (name : Name) (x : Outcome) → (report_of mode name x).status ≡ (report_of mode name (plain x)).status
plain_status mode name (outcome.Changed how) = changed_status mode how name
plain_status mode name outcome.Formatted = refl
plain_status mode name (outcome.Differs text) = refl
plain_status mode name (outcome.Refused fault snippet) = refl
plain_status mode name (outcome.Failed fault) = refl

abbrev outs : Mode → List Found → List Outcome → List (List ℕ)
outs mode seen answers = map (λ r. r.out) (reports_of mode seen answers)

abbrev statuses : Mode → List Found → List Outcome → List ℕ
statuses mode seen answers = map (λ r. r.status) (reports_of mode seen answers)

plain_outs : (mode : Mode) (seen : List Found) (answers : List Outcome) → outs mode seen answers ≡ outs mode seen (map plain answers)
plain_outs mode [] answers = refl
plain_outs mode (f ∷ seen) [] = refl
plain_outs mode (f ∷ seen) (x ∷ xs) = λ i. plain_out mode f.name.items x i ∷ plain_outs mode seen xs i

plain_statuses : (mode : Mode) (seen : List Found) (answers : List Outcome) → statuses mode seen answers ≡ statuses mode seen (map plain answers)
plain_statuses mode [] answers = refl
plain_statuses mode (f ∷ seen) [] = refl
plain_statuses mode (f ∷ seen) (x ∷ xs) = λ i. plain_status mode f.name.items x i ∷ plain_statuses mode seen xs i

-- ---- runs that don't have status 4

good_looks : (shows : Bool) (mode : Mode) (seen : List Found) (answers : List Outcome) (a b : State) (n : ℕ) → LooksAtAll shows mode seen answers a b
    → fold worse_status n (map (λ r. r.status) (reports_of mode seen answers)) ≢ 4 → (n ≢ 4) × (list_any is_failed answers ≡ false)
good_looks shows mode [] [] a b n l ne = (ne, refl)
good_looks shows mode [] (x ∷ xs) a b n l ne = absurd l
good_looks shows mode (f ∷ seen) [] a b n l ne = absurd l
good_looks shows mode (f ∷ seen) (x ∷ xs) a b n l ne =
    let s = (report_of mode f.name.items x).status in
    let rest = good_looks shows mode seen xs l.0 b (worse_status n s) l.2 ne in
    (first_good n s rest.0, ap (λ v. v || list_any is_failed xs) (good_answer mode f.name.items x (second_good n s rest.0)) ∙ rest.1)

good_writers : (v : Bool) (status n : ℕ) → status ≡ (if v then 4 else n) → status ≢ 4 → (v ≡ false) × (status ≡ n)
good_writers true status n e ne = absurd (ne e)
good_writers false status n e ne = (refl, e)

-- a run that doesn't have status 4
record Good (shows : Bool) (mode : Mode) (found : List Found) (before after : State) (answers : List Outcome) (status : ℕ) : Type 0 where
  pub looks : Visited shows mode found answers before after
  pub good : list_any is_failed answers ≡ false
  pub exit : status ≡ worst_status (map (λ r. r.status) (reports_of mode found answers))

good_run : (shows : Bool) (mode : Mode) (found : List Found) (last : List Outcome → List ℕ) (before after : State) (end : End) (run : IsRun shows mode found last before after end) → end.status ≢ 4
    → (found ≡ run.seen) × Good shows mode found before after run.answers end.status
good_run shows mode found last before after end run ne =
    let writers = good_writers (end.out.failed || end.err.failed) end.status (worst_status (map (λ r. r.status) (reports_of mode run.seen run.answers))) run.exit ne in
    let all : found ≡ run.seen = run.all ∙ ap (λ l. run.seen ++ l) (run.whole writers.0) ∙ append-nil run.seen in (
      all,
      subst (λ l. Good shows mode l before after run.answers end.status) (sym all) (record {
        looks = visited shows mode run.seen run.answers before after run.looks;
        good = (good_looks shows mode run.seen run.answers before after 0 run.looks (λ e. ne (writers.1 ∙ e))).1;
        exit = writers.1;
      }),
    )

pub one_run : (shows : Bool) (mode : Mode) (found : List Found) (last other_last : List Outcome → List ℕ) (before other_before after other_after : State) (end other_end : End) → AreTold before.files found
    → other_before.files ≡ before.files → (run : IsRun shows mode found last before after end) → (other : IsRun shows mode found other_last other_before other_after other_end)
    → end.status ≢ 4 → other_end.status ≢ 4
    → (map (λ r. r.out) (reports_of mode run.seen run.answers) ≡ map (λ r. r.out) (reports_of mode other.seen other.answers)) × (end.status ≡ other_end.status) × (after.files ≡ other_after.files)
    × (list_any is_narrowed run.answers ≡ false → list_any is_narrowed other.answers ≡ false → reports_of mode run.seen run.answers ≡ reports_of mode other.seen other.answers)
one_run shows mode found last other_last before other_before after other_after end other_end told same run other ne other_ne =
    let g = good_run shows mode found last before after end run ne in
    let h = good_run shows mode found other_last other_before other_after other_end other other_ne in
    let p = one_looked shows mode found (map plain run.answers) (map plain other.answers) before after other_before other_after told same (plain_looked shows mode found run.answers before after g.1.looks)
    (plain_looked shows mode found other.answers other_before other_after h.1.looks) (plain_even run.answers ∙ g.1.good) (plain_even other.answers ∙ h.1.good) in (
      ap (λ l. outs mode l run.answers) (sym g.0) ∙ plain_outs mode found run.answers ∙ ap (λ rs. map (λ (r : Row). r.out) rs) p.0 ∙ sym (plain_outs mode found other.answers) ∙ ap (λ l. outs mode l other.answers) h.0,
      g.1.exit ∙ ap worst_status (plain_statuses mode found run.answers) ∙ ap (λ rs. worst_status (map (λ (r : Row). r.status) rs)) p.0 ∙ ap worst_status (sym (plain_statuses mode found other.answers)) ∙ sym h.1.exit,
      p.1,
      λ kept other_kept.
          let one = one_looked shows mode found run.answers other.answers before after other_before other_after told same g.1.looks h.1.looks (even_answers run.answers g.1.good kept) (even_answers other.answers h.1.good other_kept) in
          ap (λ l. reports_of mode l run.answers) (sym g.0) ∙ one.0 ∙ ap (λ l. reports_of mode l other.answers) h.0,
    )
