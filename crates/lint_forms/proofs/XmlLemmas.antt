-- Remarks of the code, and those of the definitions.
use Rattle.std.proofs.Common.{◌≡◌, ◌∙◌, ◌<◌, ◌++◌, ◌∷◌, [], ℕ, Bool, true, false, List, ap, append_assoc, arith, cond, filter, flat_map, length, map, refl, sym}
use Rattle.std.proofs.lemmas.List.Folds.{flat_map-map}
use Rattle.lint_forms.specs.Remarks.{said_by}
use Rattle.lint_forms.specs.Xml.{junit_case, junit_suite, suite_end, suite_head}
use Rattle.lint_forms.specs.declared.remark.Remark as code
use Rattle.lint_forms.specs.declared.subject.Subject.{Subject}

one_kept : {A B : Type 0} (b : Bool) (x : A) (xs : List A) (y : B) (ys : List B) → length xs ≡ length ys → length (cond b (x ∷ xs) xs) ≡ length (cond b (y ∷ ys) ys)
one_kept true x xs y ys e = omega (arith, e)
one_kept false x xs y ys e = e

pub kept_as_said : (p : Subject → Bool) (rs : List code.Remark) → length (filter (λ r. p r.subject) (map said_by rs)) ≡ length (filter (λ r. p r.subject) rs)
kept_as_said p [] = refl
kept_as_said p (r ∷ rs) = one_kept (p r.subject) (said_by r) (filter (λ q. p q.subject) (map said_by rs)) r (filter (λ q. p q.subject) rs) (kept_as_said p rs)

pub suite_of_some : (rs : List code.Remark) → 0 < length rs
    → suite_head (map said_by rs) ++ (flat_map (λ r. junit_case (said_by r)) rs ++ suite_end) ≡ junit_suite (map said_by rs)
suite_of_some [] h = absurd (omega arith)
suite_of_some (r ∷ rs) h = ap (λ l. suite_head (map said_by (r ∷ rs)) ++ (l ++ suite_end)) (sym (flat_map-map junit_case said_by (r ∷ rs)))

-- a text in three steps from nothing
pub in_three : (n t u v head cases end h k : List ℕ) → n ≡ [] → t ≡ n ++ head → u ≡ t ++ cases → v ≡ u ++ end → head ≡ h → cases ≡ k → v ≡ h ++ (k ++ end)
in_three n t u v head cases end h k none started longer ended same alike =
    ended ∙ ap (λ l. l ++ end) (longer ∙ ap (λ l. l ++ cases) (started ∙ ap (λ l. l ++ head) none ∙ same) ∙ ap (λ l. h ++ l) alike) ∙ append_assoc h k end
