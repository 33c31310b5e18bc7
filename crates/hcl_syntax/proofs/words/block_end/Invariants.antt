use Rattle.std.proofs.Common.{◌-◌}
use Rattle.hcl_syntax.proofs.SoughtLemmas.{NoClose}
use Rattle.hcl_syntax.proofs.words.block_end.Given as goal

abbrev pub invariant-loop-end : goal.invariant-loop-end
invariant-loop-end l = NoClose l.tokens.tokens l.end l.to

abbrev pub decreases-loop-end : goal.decreases-loop-end
decreases-loop-end l = l.end - l.from
