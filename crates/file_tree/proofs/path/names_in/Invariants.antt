use Rattle.std.proofs.Common.{◌≡◌, length, map, take}
use Rattle.file_tree.specs.Below.{names_in_listing}
use Rattle.file_tree.proofs.path.names_in.Given as goal

abbrev pub invariant-loop-name : goal.invariant-loop-name
invariant-loop-name l = map (λ name. name.now) l.names.items ≡ take (length l.yielded) (names_in_listing l.text)
