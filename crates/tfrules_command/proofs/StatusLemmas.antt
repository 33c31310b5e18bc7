-- The status of a report depends only on the rules of its issues.
use Rattle.std.proofs.Common.{◌≡◌, ◌∙◌, ◌&&◌, ◌||◌, ◌+◌, ◌≤◌, ap, refl, sym, ℕ, Bool, true, false, List, [], ◌∷◌, drop, length, map, not, nat_le, if◌then◌else◌}
use Rattle.std.proofs.lemmas.List.{drop_all}
use Rattle.std.specs.Prelude.{Some, slice_get}
use Rattle.std.specs.List.{list_any}
use Rattle.hcl_grammar.proofs.NumberedLemmas.{drop_at}
use Rattle.rule_set.specs.Rules.{severity}
use Rattle.rule_set.specs.declared.rule.Severity.{Severity}
use Rattle.tf_rules.specs.declared.issue.Issue.{Issue}
use Rattle.tfrules_command.specs.Line.{Request}
use Rattle.tfrules_command.specs.Report.{status, weighs, weight}

any_by_rules : (minimum : Severity) (issues : List Issue) → list_any (weighs minimum) issues ≡ list_any (λ r. nat_le (weight minimum) (weight (severity r))) (map (λ i. i.rule) issues)
any_by_rules minimum [] = refl
any_by_rules minimum (i ∷ is) = ap (λ b. nat_le (weight minimum) (weight (severity i.rule)) || b) (any_by_rules minimum is)

pub same_status : (asking : Request) (issues others : List Issue) → map (λ i. i.rule) issues ≡ map (λ i. i.rule) others → status asking issues ≡ status asking others
same_status asking issues others same =
    ap (λ b. if not asking.force && b then 2 else 0)
    (any_by_rules asking.minimum issues ∙ ap (list_any (λ r. nat_le (weight asking.minimum) (weight (severity r)))) same ∙ sym (any_by_rules asking.minimum others))

-- ---- the first issue that is severe

module _ (p : Issue → Bool) (xs : List Issue) (i : ℕ) (x : Issue) (at : slice_get xs i ≡ Some x) (so_far : list_any p (drop i xs) ≡ list_any p xs) where
  split : list_any p (drop i xs) ≡ (p x || list_any p (drop (i + 1) xs))
  split = ap (list_any p) (drop_at xs i x at)

  pub found : p x ≡ true → true ≡ list_any p xs
  found is = sym (ap (λ b. b || list_any p (drop (i + 1) xs)) is) ∙ sym split ∙ so_far

  pub not_yet : p x ≡ false → list_any p (drop (i + 1) xs) ≡ list_any p xs
  not_yet is = sym (ap (λ b. b || list_any p (drop (i + 1) xs)) is) ∙ sym split ∙ so_far

pub none_found : (p : Issue → Bool) (xs : List Issue) (i : ℕ) → length xs ≤ i → list_any p (drop i xs) ≡ list_any p xs → false ≡ list_any p xs
none_found p xs i past so_far = sym (ap (list_any p) (drop_all i xs past)) ∙ so_far
