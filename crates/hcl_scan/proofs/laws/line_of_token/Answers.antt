use Rattle.hcl_scan.proofs.TokenLineLemmas.{line_is}
use Rattle.hcl_scan.proofs.laws.line_of_token.Goals as goal

pub returns : goal.returns
returns c = line_is
