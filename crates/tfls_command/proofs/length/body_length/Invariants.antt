use Rattle.std.proofs.Common.{◌≡◌, ◌≤◌, drop}
use Rattle.std.specs.Str.Parse.{digits_value, digits_value_after}
use Rattle.tfls_command.specs.Frames.{max_body}
use Rattle.tfls_command.proofs.length.body_length.Given as goal

abbrev pub invariant-loop-at : goal.invariant-loop-at
invariant-loop-at l = record { small : l.value ≤ max_body; rest : digits_value_after 10 l.value (drop l.at l.digits) ≡ digits_value 10 l.digits }
