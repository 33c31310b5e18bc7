use Rattle.hcl_tokens.proofs.OneReadingLemmas.{one_scan}
use Rattle.hcl_scan.proofs.SpellingLemmas.{one_kind}
use Rattle.hcl_tokens.proofs.NonemptyLemmas.{nonempty}
use Rattle.hcl_scan.proofs.laws.one_list.Goals as goal

pub returns : goal.returns
returns c = one_scan one_kind nonempty
