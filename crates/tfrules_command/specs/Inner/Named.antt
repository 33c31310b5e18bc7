-- A set of rules that is built name by name.
use Rattle.std.specs.Prelude.{◌≡◌, ℕ, true, false, List, Option, Some, None}
use Rattle.std.specs.List.{list_all, list_any}
use Rattle.rule_set.specs.RuleSets.{holds}
use Rattle.rule_set.specs.Rules.{all_rules}
use Rattle.rule_set.specs.declared.rule.Rule.{Rule}
use Rattle.rule_set.specs.declared.rule_set.RuleSet.{RuleSet}
use Rattle.tfrules_command.specs.Line.{has_name}

-- each name is a rule's, and the set has these rules; or one is no rule's name
abbrev pub Named : List (List ℕ) → Option RuleSet → Type 0
Named names None = list_all (λ name. list_any (has_name name) all_rules) names ≡ false
Named names (Some set) =
    (list_all (λ name. list_any (has_name name) all_rules) names ≡ true)
    × ((rule : Rule) → holds set rule ≡ list_any (λ name. has_name name rule) names)
