use Rattle.std.proofs.Common.{◌∙◌, ap}
use Rattle.std.specs.List.{list_any}
use Rattle.rule_set.specs.RuleSets.{holds}
use Rattle.rule_set.specs.Rules.{all_rules}
use Rattle.module_config.specs.Lists.{stands_for}
use Rattle.module_config.proofs.ListLemmas.{any_same}
use Rattle.module_config.proofs.list_part.is_known_part.Goals as goal

pub returns : goal.returns
returns c = c.holds_any.ensures ∙ any_same (holds c.rules_of_name.result) (stands_for c.part_name.result.now) all_rules c.rules_of_name.ensures ∙ ap (λ name. list_any (stands_for name) all_rules) c.part_name.ensures
