use Rattle.hcl_tokens.proofs.OneReadingLemmas.{scan_bounded}
use Rattle.hcl_scan.proofs.laws.open_constructs_are_bounded.Goals as goal

pub returns : goal.returns
returns c = scan_bounded
