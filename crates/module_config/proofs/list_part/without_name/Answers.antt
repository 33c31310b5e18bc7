use Rattle.rule_set.specs.RuleSets.{holds}
use Rattle.module_config.specs.Lists.{stands_for}
use Rattle.module_config.proofs.ListLemmas.{any_of, first_way}
use Rattle.module_config.proofs.list_part.without_name.Goals as goal

pub returns-then-holds_any : goal.returns-then-holds_any
returns-then-holds_any c = (
  any_of c.rules_of_name-named.result (stands_for c.args.name.now) _ _ c.holds_any.ensures c.rules_of_name-named.ensures c.if-holds_any.true,
  λ rule. first_way (holds c.args.set rule) (holds c.rules_of_name-named.result rule) _ (c.rules_without.ensures rule) (stands_for c.args.name.now rule) (c.rules_of_name-named.ensures rule),
)

pub returns : goal.returns
returns c = any_of c.rules_of_name-named.result (stands_for c.args.name.now) _ _ c.holds_any.ensures c.rules_of_name-named.ensures c.if-holds_any.false
