use Rattle.hcl_tokens.proofs.OneReadingLemmas.{no_fault}
use Rattle.hcl_scan.proofs.SpellingLemmas.{one_kind}
use Rattle.hcl_tokens.proofs.NonemptyLemmas.{nonempty}
use Rattle.hcl_scan.proofs.laws.fault_or_list.Goals as goal

pub returns : goal.returns
returns c = λ text kind at ts fault scans. no_fault one_kind nonempty text ts kind at scans fault
