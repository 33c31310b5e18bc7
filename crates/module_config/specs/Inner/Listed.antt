-- A set of rules that is built part by part.
use Rattle.std.specs.Prelude.{◌≡◌, ℕ, Bool, true, false, List, MatchOption, Option, Some, None, if◌then◌else◌}
use Rattle.std.specs.List.{list_all, list_any}
use Rattle.rule_set.specs.Rules.{all_rules}
use Rattle.rule_set.specs.RuleSets.{holds}
use Rattle.rule_set.specs.declared.rule.Rule.{Rule}
use Rattle.rule_set.specs.declared.rule_set.RuleSet.{RuleSet}
use Rattle.module_config.specs.Lists.{is_asked, is_known_part, stands_for}

-- each part names a rule, and the set has the rules that they ask for; or one part names none
abbrev pub Listed : List (List ℕ) → Option RuleSet → Type 0
Listed parts None = list_all is_known_part parts ≡ false
Listed parts (Some set) = (list_all is_known_part parts ≡ true) × ((rule : Rule) → holds set rule ≡ is_asked parts rule)

-- the new set after a name, or nothing if the name isn't a rule's: its rules are added or removed
abbrev pub IsSetByName : Bool → List ℕ → RuleSet → Option RuleSet → Type 0
IsSetByName gives name set other =
    MatchOption other (list_any (stands_for name) all_rules ≡ false) (λ changed. (list_any (stands_for name) all_rules ≡ true)
    × ((rule : Rule) → holds changed rule ≡ (if stands_for name rule then gives else holds set rule)))
