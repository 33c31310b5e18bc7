use Rattle.std.proofs.Common.{length, take}
use Rattle.std.specs.Prelude.{◌==◌}
use Rattle.std.specs.List.{slice_split}
use Rattle.tfrules_command.specs.Inner.Named.{Named}
use Rattle.tfrules_command.proofs.options.rules_named.Given as goal

abbrev pub invariant-loop-name : goal.invariant-loop-name
invariant-loop-name l = Named (take (length l.yielded) (slice_split (λ b. b == 44) l.list)) l.set
