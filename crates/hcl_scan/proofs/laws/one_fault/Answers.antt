use Rattle.hcl_tokens.proofs.OneReadingLemmas.{one_fault}
use Rattle.hcl_scan.proofs.SpellingLemmas.{one_kind}
use Rattle.hcl_tokens.proofs.NonemptyLemmas.{nonempty}
use Rattle.hcl_scan.proofs.laws.one_fault.Goals as goal

pub returns : goal.returns
returns c = one_fault one_kind nonempty
