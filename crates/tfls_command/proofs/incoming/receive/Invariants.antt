use Rattle.std.proofs.Common.{◌≡◌, ◌+◌, ◌-◌, false, length}
use Rattle.tfls_command.specs.Frames.{max_body, max_head}
use Rattle.tfls_command.proofs.StreamLemmas.{Waits}
use Rattle.tfls_command.proofs.incoming.receive.Given as goal

abbrev pub invariant-loop-received : goal.invariant-loop-received
invariant-loop-received g l = record { waits : Waits (g.R.ByteSource.left l.fn.source) (g.R.ByteSource.left l.source) l.fn.inbox l.inbox; failed : g.R.ByteSource.failed l.source ≡ false }

abbrev pub decreases-loop-received : goal.decreases-loop-received
decreases-loop-received g l = max_head + max_body - length l.inbox
