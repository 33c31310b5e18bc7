use Rattle.text_format.proofs.OlderPremiseLemmas.{scanned_before}
use Rattle.text_format.proofs.OlderRunLemmas.{accepted_before}
use Rattle.text_format.proofs.laws.older_without_paths.Goals as goal

pub returns-clause-scanned : goal.returns-clause-scanned
returns-clause-scanned c = scanned_before

pub returns-clause-accepted : goal.returns-clause-accepted
returns-clause-accepted c = λ ts is pathless. accepted_before ts pathless is
