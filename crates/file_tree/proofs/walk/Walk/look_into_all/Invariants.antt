use Rattle.std.proofs.Common.{◌≡◌, List}
use Rattle.file_tree.specs.Files.{Name}
use Rattle.file_tree.specs.Inner.Chosen.{chooser_view}
use Rattle.file_tree.specs.Inner.Walking.{Hears, Walked, walk_view}
use Rattle.file_tree.proofs.walk.Walk.look_into_all.Given as goal

abbrev pub invariant-loop : goal.invariant-loop
invariant-loop g l =
    (g.T.Tree.files l.tree ≡ g.T.Tree.files l.initial.tree)
    × ((paths : List Name) → Walked (g.T.Tree.files l.initial.tree) (chooser_view l.chooser) paths (walk_view l.initial.self) → Walked (g.T.Tree.files l.initial.tree) (chooser_view l.chooser) paths (walk_view l.self))
    × Hears (walk_view l.initial.self).found (walk_view l.self).found (g.T.Tree.faults l.initial.tree) (g.T.Tree.faults l.tree)
    × (g.T.Tree.asked l.tree ≡ g.T.Tree.asked l.initial.tree)
