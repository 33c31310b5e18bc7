use Rattle.tree_format.proofs.OneRunLemmas.{one_run}
use Rattle.tree_format.proofs.laws.one_run.Goals as goal

pub returns : goal.returns
returns c = one_run
