use Rattle.std.proofs.Common.{◌≡◌}
use Rattle.module_config.specs.Governors.{ArePlaced}
use Rattle.module_config.proofs.configure.place_all.Given as goal

abbrev pub invariant-loop-module : goal.invariant-loop-module
invariant-loop-module g l =
    (g.T.Tree.files l.tree ≡ g.T.Tree.files l.initial.tree) × (g.T.Tree.asked l.tree ≡ g.T.Tree.asked l.initial.tree)
    × ArePlaced (g.T.Tree.files l.initial.tree) l.start l.yielded l.placed.items (g.T.Tree.faults l.initial.tree) (g.T.Tree.faults l.tree)
