use Rattle.module_config.proofs.ListLemmas.{none_left, some_left}
use Rattle.module_config.proofs.list.unless_empty.Goals as goal

pub returns-then-holds_any : goal.returns-then-holds_any
returns-then-holds_any c = λ parts listed. some_left parts c.args.set c.holds_any.result c.holds_any.ensures c.if-holds_any.true listed

pub returns : goal.returns
returns c = λ parts listed. none_left parts c.args.set c.holds_any.result c.holds_any.ensures c.if-holds_any.false listed
