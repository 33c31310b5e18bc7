use Rattle.hcl_scan.proofs.OtherGapLemmas.{other_gaps}
use Rattle.hcl_scan.proofs.laws.other_gaps.Goals as goal

pub returns : goal.returns
returns c = other_gaps
