use Rattle.hcl_scan.proofs.NeighbourLemmas.{kept}
use Rattle.hcl_scan.proofs.laws.neighbours.Goals as goal

pub returns : goal.returns
returns c = λ opens dot kind text rest other plain longest table. kept opens dot kind text rest other plain longest.spelled table
