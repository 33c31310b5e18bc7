use Rattle.std.proofs.Common.{◌≡◌, map, take}
use Rattle.file_tree.specs.Finds.{AreReal}
use Rattle.file_tree.specs.Inner.Chosen.{chooser_view}
use Rattle.file_tree.specs.Inner.Walking.{Walked, walk_view}
use Rattle.file_tree.proofs.walk.Walk.from_names.Given as goal

-- the names so far were taken
abbrev pub invariant-loop-path : goal.invariant-loop-path
invariant-loop-path g l =
    (g.T.Tree.files l.tree ≡ g.T.Tree.files l.initial.tree)
    × Walked (g.T.Tree.files l.initial.tree) (chooser_view l.chooser) (map (λ path. path.now) (take l.path-index l.paths)) (walk_view l.walk)
    × AreReal (g.T.Tree.files l.initial.tree) (chooser_view l.chooser) (map (λ path. path.now) (take l.path-index l.paths)) (g.T.Tree.faults l.initial.tree) (g.T.Tree.faults l.tree) (walk_view l.walk).found
    × (g.T.Tree.asked l.tree ≡ g.T.Tree.asked l.initial.tree)
