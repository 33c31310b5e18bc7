use Rattle.std.proofs.Common.{◌≡◌, map, take}
use Rattle.file_tree.specs.Inner.Chosen.{chooser_view}
use Rattle.file_tree.specs.Inner.Walking.{Hears, TakesAll, walk_view}
use Rattle.file_tree.proofs.walk.Walk.take_entries.Given as goal

-- the names so far were taken
abbrev pub invariant-loop-name : goal.invariant-loop-name
invariant-loop-name g l =
    (g.T.Tree.files l.tree ≡ g.T.Tree.files l.initial.tree)
    × TakesAll (g.T.Tree.files l.initial.tree) (chooser_view l.chooser) l.folder (map (λ name. name.now) (take l.name-index l.names)) (walk_view l.initial.self) (walk_view l.self)
    × Hears (walk_view l.initial.self).found (walk_view l.self).found (g.T.Tree.faults l.initial.tree) (g.T.Tree.faults l.tree)
    × (g.T.Tree.asked l.tree ≡ g.T.Tree.asked l.initial.tree)
