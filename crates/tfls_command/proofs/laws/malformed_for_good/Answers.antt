use Rattle.tfls_command.proofs.LawLemmas.{malformed_stays}
use Rattle.tfls_command.proofs.laws.malformed_for_good.Goals as goal

pub returns : goal.returns
returns c = malformed_stays
