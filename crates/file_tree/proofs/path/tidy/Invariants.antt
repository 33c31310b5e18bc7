use Rattle.std.proofs.Common.{filter, length, take}
use Rattle.std.specs.Prelude.{◌==◌}
use Rattle.std.specs.List.{slice_split}
use Rattle.file_tree.specs.Inner.Steps.{Joined}
use Rattle.file_tree.specs.Paths.{is_step, root}
use Rattle.file_tree.proofs.path.tidy.Given as goal

-- the parts so far are joined
abbrev pub invariant-loop-part : goal.invariant-loop-part
invariant-loop-part l = Joined (root l.path) (filter is_step (take (length l.yielded) (slice_split (λ b. b == 47) l.path))) l.tidied.items l.has_step
