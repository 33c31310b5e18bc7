use Rattle.hcl_tokens.proofs.OneReadingLemmas.{opens_after}
use Rattle.hcl_scan.proofs.laws.context_of_list.Goals as goal

pub returns : goal.returns
returns c = opens_after
