-- The rules that a part of a silencing comment names.
use Rattle.std.proofs.Common.{◌≡◌, ◌∙◌, ap, sym, refl, ℕ, Bool, true, false, List, subst}
use Rattle.std.specs.Prelude.{◌||◌, Option, Some, None, MatchOption, codes, find}
use Rattle.std.specs.Str.{bytes_eq}
use Rattle.std.proofs.lemmas.Slice.Eq.{bytes_eq-Decides}
use Rattle.rule_set.specs.Rules.{all_rules, is_rule, rule_name}
use Rattle.rule_set.specs.declared.rule.Rule.{Rule}
use Rattle.rule_set.proofs.RuleNameLemmas.{by_name, is_rule_by_name}
use Rattle.tf_facts.specs.Silencing.{names}

pub or_false : (b : Bool) → (b || false) ≡ b
or_false true = refl
or_false false = refl

-- the rule that a part names, if it isn't `all`
pub names_one : (part : List ℕ) (found : Rule) → bytes_eq part (codes "all") ≡ false → Some found ≡ find (λ rule. bytes_eq (rule_name rule) part) all_rules → (rule : Rule) → is_rule rule found ≡ names rule part
names_one part found other is rule =
    let same : rule_name found ≡ part = subst (λ (o : Option Rule). MatchOption o ((r : Rule) → rule_name r ≡ part → ⊥) (λ r. rule_name r ≡ part)) (sym is) (by_name part) in
    is_rule_by_name rule found ∙ ap (λ text. bytes_eq text (rule_name rule)) same ∙ ap (λ b. b || bytes_eq part (rule_name rule)) (sym other)

pub names_none : (part : List ℕ) → bytes_eq part (codes "all") ≡ false → None ≡ find (λ rule. bytes_eq (rule_name rule) part) all_rules → (rule : Rule) → names rule part ≡ false
names_none part other is rule =
    let none : (r : Rule) → rule_name r ≡ part → ⊥ = subst (λ (o : Option Rule). MatchOption o ((r : Rule) → rule_name r ≡ part → ⊥) (λ r. rule_name r ≡ part)) (sym is) (by_name part) in
    ap (λ b. b || bytes_eq part (rule_name rule)) other ∙ by (bytes_eq part (rule_name rule)) refl none
  where
    by : (b : Bool) → bytes_eq part (rule_name rule) ≡ b → ((r : Rule) → rule_name r ≡ part → ⊥) → b ≡ false
    by true e h = absurd (h rule (sym ((bytes_eq-Decides part (rule_name rule)).0 e)))
    by false e h = refl
