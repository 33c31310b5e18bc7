use Rattle.file_tree.specs.Inner.Searching.{AreOrdered}
use Rattle.file_tree.proofs.walk.order_each.Given as goal

abbrev pub invariant-loop-one : goal.invariant-loop-one
invariant-loop-one l = AreOrdered l.yielded l.ordered.items
