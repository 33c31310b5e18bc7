use Rattle.std.proofs.Common.{◌≡◌, ◌++◌, All, None, map, take}
use Rattle.module_config.specs.Governors.{OnlyMissing}
use Rattle.module_config.proofs.first.first_with.Given as goal

abbrev pub invariant-loop-at : goal.invariant-loop-at
invariant-loop-at g l =
    (g.T.Tree.files l.tree ≡ g.T.Tree.files l.initial.tree)
    × (g.T.Tree.asked l.tree ≡ g.T.Tree.asked l.initial.tree)
    × OnlyMissing (g.T.Tree.faults l.initial.tree) (g.T.Tree.faults l.tree)
    × All (λ folder. (g.T.Tree.files l.initial.tree).entry (folder ++ l.entry) ≡ None) (take l.at (map (λ folder. folder.now) l.folders))
