use Rattle.std.proofs.Common.{◌≡◌, length, take}
use Rattle.std.specs.Prelude.{◌==◌, None, find, not}
use Rattle.std.specs.List.{slice_split}
use Rattle.module_config.specs.Lists.{is_known_part}
use Rattle.module_config.proofs.list.unknown_part.Given as goal

abbrev pub invariant-loop-part : goal.invariant-loop-part
invariant-loop-part l = find (λ part. not (is_known_part part)) (take (length l.yielded) (slice_split (λ b. b == 44) l.list)) ≡ None
