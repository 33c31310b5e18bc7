use Rattle.std.proofs.Common.{◌≡◌, length, take}
use Rattle.std.specs.Prelude.{◌==◌, ◌&&◌}
use Rattle.std.specs.List.{list_any, slice_split}
use Rattle.std.specs.Str.{bytes_eq}
use Rattle.file_tree.specs.Paths.{is_step}
use Rattle.file_tree.proofs.choice.has_step.Given as goal

-- one of the parts so far has the name
abbrev pub invariant-loop-part : goal.invariant-loop-part
invariant-loop-part l = l.has ≡ list_any (λ part. is_step part && bytes_eq part l.name) (take (length l.yielded) (slice_split (λ b. b == 47) l.path))
