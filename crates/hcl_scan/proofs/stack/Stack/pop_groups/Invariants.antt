use Rattle.std.proofs.Common.{◌≡◌, length}
use Rattle.hcl_scan.specs.Inner.Openings.{popped_groups}
use Rattle.hcl_scan.proofs.stack.Stack.pop_groups.Given as goal

-- the final rest stays the same
abbrev pub invariant-loop-top : goal.invariant-loop-top
invariant-loop-top l = popped_groups l.self ≡ popped_groups l.initial.self

abbrev pub decreases-loop-top : goal.decreases-loop-top
decreases-loop-top l = length l.self
