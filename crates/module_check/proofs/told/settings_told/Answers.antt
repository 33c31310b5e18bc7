use Rattle.module_check.proofs.CheckLemmas.{told_all, told_less}
use Rattle.module_check.proofs.told.settings_told.Goals as goal

pub returns-then-are_good : goal.returns-then-are_good
returns-then-are_good c = told_all c.args.settings c.args.states.now c.are_good.result c.are_good.ensures c.if-are_good.true

pub returns : goal.returns
returns c = told_less c.args.settings c.args.states.now c.are_good.result c.none.result c.with-unused.result c.rules_without.result c.are_good.ensures c.if-are_good.false c.none.ensures c.with-unused.ensures c.rules_without.ensures
