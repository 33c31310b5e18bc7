use Rattle.std.proofs.Common.{◌≡◌, length}
use Rattle.hcl_scan.specs.Inner.Openings.{innermost_unclosed}
use Rattle.hcl_scan.proofs.stack.Stack.pop_unclosed.Given as goal

-- the final result stays the same
abbrev pub invariant-loop-top : goal.invariant-loop-top
invariant-loop-top l = innermost_unclosed l.self ≡ innermost_unclosed l.initial.self

abbrev pub decreases-loop-top : goal.decreases-loop-top
decreases-loop-top l = length l.self
