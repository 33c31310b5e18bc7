use Rattle.std.proofs.Common.{◌≡◌, ◌≤◌, false, map, take}
use Rattle.std.specs.Prelude.{string_bytes}
use Rattle.tfrules_command.specs.Files.{max_module}
use Rattle.tree_lint.specs.Inner.Gathering.{ReachedAll}
use Rattle.module_find.specs.Modules.{bytes_of_name}
use Rattle.tree_lint.proofs.gather.gather.Given as goal

abbrev pub invariant-loop-number : goal.invariant-loop-number
invariant-loop-number g l =
    (g.T.Tree.files l.files.tree ≡ g.T.Tree.files l.initial.files.tree)
    × (g.T.Tree.asked l.files.tree ≡ g.T.Tree.asked l.initial.files.tree)
    × (g.T.Tree.faults l.files.tree ≡ g.T.Tree.faults l.initial.files.tree)
    × (l.size ≤ max_module)
    × ReachedAll (bytes_of_name (g.T.Tree.files l.initial.files.tree)) (take l.number (map string_bytes l.names)) l.size l.initial.into.checks l.initial.into.terminals l.into
    × (l.files.is_out ≡ false)
