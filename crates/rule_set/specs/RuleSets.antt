-- Sets of rules.
use Rattle.std.specs.Prelude.{Bool, false, List, filter, get_or}
use Rattle.rule_set.specs.Rules.{all_rules, rank}
use Rattle.rule_set.specs.declared.rule.Rule.{Rule}
use Rattle.rule_set.specs.declared.rule_set.RuleSet.{RuleSet}

-- the rule is in the set
abbrev pub holds : RuleSet → Rule → Bool
holds set rule = get_or set.held (rank rule) false

-- the rules of the set, each once, in the order of their names
abbrev pub rules_of : RuleSet → List Rule
rules_of set = filter (holds set) all_rules
