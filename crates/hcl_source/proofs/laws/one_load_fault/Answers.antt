use Rattle.hcl_source.proofs.LoadLemmas.{one_load_fault}
use Rattle.hcl_source.proofs.laws.one_load_fault.Goals as goal

pub returns : goal.returns
returns c = one_load_fault
