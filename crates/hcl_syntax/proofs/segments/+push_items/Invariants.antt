use Rattle.std.proofs.Common.{◌-◌, ◌<◌}
use Rattle.hcl_syntax.specs.Inner.Segments.{CanBegin}
use Rattle.hcl_syntax.proofs.OutlineLemmas.{AreItems}
use Rattle.hcl_syntax.proofs.segments.+push_items.Given as goal

abbrev pub decreases-push_items : goal.decreases-push_items
decreases-push_items l = l.to - l.from

abbrev pub invariant-loop-start : goal.invariant-loop-start
invariant-loop-start l = record { items : AreItems l.tokens.tokens l.level l.from l.to l.fn.items l.items l.start; begins : l.start < l.to → CanBegin l.tokens.tokens l.start }

abbrev pub decreases-loop-start : goal.decreases-loop-start
decreases-loop-start l = l.to - l.start
