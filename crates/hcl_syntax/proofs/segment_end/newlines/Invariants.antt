use Rattle.std.proofs.Common.{[], ◌∷◌, ◌++◌}
use Rattle.hcl_syntax.proofs.SegmentEndLemmas.{IsFilled}
use Rattle.hcl_syntax.proofs.segment_end.newlines.Given as goal

abbrev pub invariant-loop-next : goal.invariant-loop-next
invariant-loop-next l = IsFilled l.tokens.tokens l.ends.items (l.rest.items ++ l.top ∷ []) l.next

abbrev pub decreases-loop-next : goal.decreases-loop-next
decreases-loop-next l = l.next
