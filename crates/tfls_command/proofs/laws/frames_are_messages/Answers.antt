use Rattle.tfls_command.proofs.LawLemmas.{frame_begins}
use Rattle.tfls_command.proofs.laws.frames_are_messages.Goals as goal

pub returns : goal.returns
returns c = frame_begins
