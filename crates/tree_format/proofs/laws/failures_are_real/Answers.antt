use Rattle.tree_format.proofs.RealLemmas.{real_failures}
use Rattle.tree_format.proofs.laws.failures_are_real.Goals as goal

pub returns : goal.returns
returns c = real_failures
