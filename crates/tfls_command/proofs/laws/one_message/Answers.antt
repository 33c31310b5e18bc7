use Rattle.tfls_command.proofs.LawLemmas.{one_message}
use Rattle.tfls_command.proofs.laws.one_message.Goals as goal

pub returns : goal.returns
returns c = one_message
