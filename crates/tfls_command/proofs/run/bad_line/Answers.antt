use Rattle.command_line.proofs.EndLemmas.{shows_as}
use Rattle.tfls_command.proofs.run.bad_line.Goals as goal

pub returns : goal.returns
returns g c = shows_as _ _ _ _ c.server.ensures c.tell.ensures
