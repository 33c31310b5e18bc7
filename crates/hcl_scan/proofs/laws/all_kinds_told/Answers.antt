use Rattle.hcl_scan.proofs.ToldKindLemmas.{told}
use Rattle.hcl_scan.proofs.laws.all_kinds_told.Goals as goal

pub returns : goal.returns
returns c = told
