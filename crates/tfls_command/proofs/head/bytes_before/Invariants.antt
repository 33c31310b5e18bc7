use Rattle.std.proofs.Common.{◌≡◌, drop}
use Rattle.tfls_command.specs.Frames.{bytes_before}
use Rattle.tfls_command.proofs.HeadLemmas.{beyond}
use Rattle.tfls_command.proofs.head.bytes_before.Given as goal

abbrev pub invariant-loop-at : goal.invariant-loop-at
invariant-loop-at l = bytes_before l.mark l.bytes ≡ beyond l.at (bytes_before l.mark (drop l.at l.bytes))
