use Rattle.std.proofs.Common.{◌≡◌, ◌≤◌, fold, map, take}
use Rattle.std.specs.Prelude.{string_bytes}
use Rattle.module_check.specs.Checks.{size_with}
use Rattle.module_check.specs.Inner.Judging.{HaveStates}
use Rattle.tfrules_command.specs.Files.{max_module}
use Rattle.module_check.proofs.gather.gather.Given as goal

abbrev pub invariant-loop-number : goal.invariant-loop-number
invariant-loop-number g l =
    (g.T.Tree.files l.tree ≡ g.T.Tree.files l.initial.tree)
    × (g.T.Tree.asked l.tree ≡ g.T.Tree.asked l.initial.tree)
    × (l.size ≡ fold size_with 0 l.states.items)
    × (l.size ≤ max_module)
    × HaveStates (λ name. (g.T.Tree.files l.initial.tree).told ((g.T.Tree.files l.initial.tree).real name)) (take l.number (map string_bytes l.names)) l.states.items l.facts
