-- The values of options that nothing gives.
use Rattle.std.proofs.Common.{◌≡◌, ◌∙◌, ◌∷◌, [], Bool, List, Option, None, ap, cond, refl, sym}
use Rattle.std.specs.Prelude.{filter, option_map, unwrap_or}
use Rattle.rule_set.specs.Rules.{all_rules, is_recommended}
use Rattle.rule_set.specs.RuleSets.{holds, rules_of}
use Rattle.rule_set.specs.declared.rule.Rule.{Rule}
use Rattle.rule_set.specs.declared.rule_set.RuleSet.{RuleSet}
use Rattle.module_config.specs.Settled.{default_rules}

filter_as : {A : Type 0} (p q : A → Bool) → ((a : A) → p a ≡ q a) → (xs : List A) → filter p xs ≡ filter q xs
filter_as p q h [] = refl
filter_as p q h (x ∷ xs) = ap (λ v. cond v (x ∷ filter p xs) (filter p xs)) (h x) ∙ ap (λ l. cond (q x) (x ∷ l) l) (filter_as p q h xs)

pub by_default : (own : Option RuleSet) (set : RuleSet) → own ≡ None → ((rule : Rule) → holds set rule ≡ is_recommended rule) → rules_of set ≡ unwrap_or (option_map rules_of own) default_rules
by_default own set e h = filter_as (holds set) is_recommended h all_rules ∙ sym (ap (λ o. unwrap_or (option_map rules_of o) default_rules) e)
