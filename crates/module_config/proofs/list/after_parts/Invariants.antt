use Rattle.std.proofs.Common.{length, take}
use Rattle.std.specs.Prelude.{◌==◌}
use Rattle.std.specs.List.{slice_split}
use Rattle.module_config.specs.Inner.Listed.{Listed}
use Rattle.module_config.proofs.list.after_parts.Given as goal

abbrev pub invariant-loop-part : goal.invariant-loop-part
invariant-loop-part l = Listed (take (length l.yielded) (slice_split (λ b. b == 44) l.list)) l.set
