use Rattle.std.proofs.Common.{◌≡◌}
use Rattle.file_tree.specs.Inner.Chosen.{chooser_view}
use Rattle.file_tree.specs.Inner.Searching.{Searches}
use Rattle.file_tree.proofs.walk.Search.look_into_all.Given as goal

abbrev pub invariant-loop : goal.invariant-loop
invariant-loop g l =
    (g.T.Tree.files l.tree ≡ g.T.Tree.files l.initial.tree)
    × Searches (g.T.Tree.files l.initial.tree) (chooser_view l.chooser) (g.T.Tree.faults l.initial.tree) (g.T.Tree.faults l.tree) l.initial.self l.self
    × (g.T.Tree.asked l.tree ≡ g.T.Tree.asked l.initial.tree)
