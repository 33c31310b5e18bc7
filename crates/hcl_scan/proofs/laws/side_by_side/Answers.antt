use Rattle.hcl_scan.proofs.SideBySideLemmas.{besides}
use Rattle.hcl_scan.proofs.laws.side_by_side.Goals as goal

pub returns : goal.returns
returns c = besides
