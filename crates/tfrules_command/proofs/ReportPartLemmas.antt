-- Parts that are written in turn.
use Rattle.std.proofs.Common.{◌≡◌, ◌∙◌, ◌<◌, ◌≤◌, ◌+◌, ◌++◌, ◌∷◌, [], ℕ, Bool, true, false, List, Option, None, ap, ap₂, refl, append_assoc, arith, codes, drop, get_or, length, map, subst, sym, take}
use Rattle.std.proofs.lemmas.List.{append-nil, map-append, take_all, take_more}
use Rattle.std.proofs.lemmas.List.Folds.{concat-append}
use Rattle.std.specs.Prelude.{◌==◌, Some, decimal, slice_get}
use Rattle.std.specs.Borrow.{Bor}
use Rattle.std.specs.List.{concat, flat_map}
use Rattle.std.specs.Io.KnownBytes.{Appends, Keeps}
use Rattle.command_line.specs.Rows.{TookBy, line}
use Rattle.hcl_grammar.proofs.NumberedLemmas.{drop_at}
use Rattle.rule_set.specs.Rules.{severity, severity_text}
use Rattle.tf_rules.specs.declared.issue.Issue.{Issue}
use Rattle.tfrules_command.specs.Report.{issue_line, report}
use Rattle.tfrules_command.specs.Inner.Parts.{closing_words, lines_of_report, opening_words, place_words}

-- another part waits
pub part_more : (xs : List (Bor (List ℕ))) (i : ℕ) (d : Bor (List ℕ)) (text base old new : List ℕ) → i < length xs → text ≡ (get_or xs i d).now → new ≡ old ++ text → old ≡ base ++ concat (map (λ part. part.now) (take i xs))
    → new ≡ base ++ concat (map (λ part. part.now) (take (i + 1) xs))
part_more xs i d text base old new lt is pushed so_far =
    pushed
    ∙ ap₂ (λ a b. a ++ b) so_far (is ∙ sym (append-nil (get_or xs i d).now))
    ∙ append_assoc base (concat (map (λ part. part.now) (take i xs))) ((get_or xs i d).now ++ [])
    ∙ ap (λ l. base ++ l)
    (sym (concat-append (map (λ part. part.now) (take i xs)) ((get_or xs i d).now ∷ []))
    ∙ ap concat (sym (map-append (λ part. part.now) (take i xs) (get_or xs i d ∷ [])))
    ∙ ap (λ l. concat (map (λ part. part.now) l)) (sym (take_more xs i d lt)))

-- ---- the line of an issue

pub line_here : (f : Issue → List ℕ) (xs : List Issue) (i : ℕ) (x : Issue) → slice_get xs i ≡ Some x → flat_map f (drop i xs) ≡ f x ++ flat_map f (drop (i + 1) xs)
line_here f xs i x is = ap (flat_map f) (drop_at xs i x is)

pub line_is : (names : List (List ℕ)) (i : Issue) (n p o m e : List ℕ) → n ≡ get_or names i.file [] → p ≡ place_words i.at → o ≡ opening_words (severity i.rule) → m ≡ i.message → e ≡ closing_words i.rule
    → n ++ (p ++ (o ++ (m ++ e))) ≡ issue_line names i
line_is names i n p o m e en ep eo em ee =
    (λ k. en k ++ (ep k ++ (eo k ++ (em k ++ ee k))))
    ∙ ap (λ r. get_or names i.file [] ++ r)
    (parted (codes ":") (decimal i.at.line) (codes ":") (decimal i.at.column) (opening_words (severity i.rule) ++ (i.message ++ closing_words i.rule))
    ∙ ap (λ r. codes ":" ++ (decimal i.at.line ++ (codes ":" ++ (decimal i.at.column ++ r))))
    (tail (codes ": ") (severity_text (severity i.rule)) (codes " - ") (i.message ++ closing_words i.rule)))
  where
    tail : (x y z w : List ℕ) → (x ++ (y ++ z)) ++ w ≡ x ++ (y ++ (z ++ w))
    tail x y z w = simp append_assoc

    parted : (a b c d r : List ℕ) → (a ++ (b ++ (c ++ d))) ++ r ≡ a ++ (b ++ (c ++ (d ++ r)))
    parted a b c d r = simp append_assoc

-- ---- the report

pub report_is : (names : List (List ℕ)) (issues : List Issue) (e : Bool) → e ≡ (length issues == 0) → e ≡ false → lines_of_report names issues ≡ report names issues
report_is names [] e is f = absurd (cc)
report_is names (i ∷ is) e same f = refl

-- a text was written, and then flushed
pub flushed_after : (a b c : Option (List ℕ)) (f : Bool) (s t : List ℕ) → s ≡ t → Appends a b s → Keeps b c → TookBy f a c t
flushed_after a b c f s t same p k = subst (TookBy f a c) same (by f (kept a b c s p k))
  where
    kept : (a b c : Option (List ℕ)) (s : List ℕ) → Appends a b s → Keeps b c → Appends a c s
    kept None b c s p k = tt
    kept (Some x) None c s p k = absurd p
    kept (Some x) (Some y) None s p k = absurd k
    kept (Some x) (Some y) (Some z) s p k = k ∙ p

    by : (g : Bool) → Appends a c s → TookBy g a c s
    by false p = p
    by true p = let within : length s ≤ length s = omega arith in (length s, within, subst (Appends a c) (sym (take_all (length s) s within)) p)

pub retold : (a b : Option (List ℕ)) (f : Bool) (s t : List ℕ) → s ≡ t → TookBy f a b s → TookBy f a b t
retold a b f s t e p = subst (TookBy f a b) e p
