use Rattle.tree_format.proofs.SomeRunLemmas.{a_run}
use Rattle.tree_format.proofs.laws.a_run.Goals as goal

pub returns : goal.returns
returns c = a_run
