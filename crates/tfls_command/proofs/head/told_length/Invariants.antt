use Rattle.std.proofs.Common.{◌≡◌, ◌≤◌, ◌-◌, drop, length}
use Rattle.tfls_command.specs.Frames.{fields, first_length, told_length}
use Rattle.tfls_command.proofs.head.told_length.Given as goal

abbrev pub invariant-loop-len : goal.invariant-loop-len
invariant-loop-len l = record { within : l.start ≤ length l.head; rest : first_length (fields (drop l.start l.head)) ≡ told_length l.head }

abbrev pub decreases-loop-len : goal.decreases-loop-len
decreases-loop-len l = length l.head - l.start
