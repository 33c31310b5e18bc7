use Rattle.hcl_layout.proofs.GapCountLemmas.{one_each}
use Rattle.hcl_layout.proofs.laws.one_gap_each.Goals as goal

pub returns : goal.returns
returns c = one_each
