use Rattle.std.proofs.Common.{append-nil}
use Rattle.tfls_command.proofs.outgoing.write_message.Goals as goal

pub returns-clause-took : goal.returns-clause-took
returns-clause-took g c = simp (append-nil, c.as_bytes-length.ensures.value, c.format.ensures.text) at c.write_parts.ensures.took
