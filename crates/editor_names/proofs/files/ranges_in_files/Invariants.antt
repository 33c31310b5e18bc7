use Rattle.std.proofs.Common.{◌≡◌, map, take}
use Rattle.std.specs.Prelude.{string_bytes}
use Rattle.editor_names.specs.Views.{query_seen}
use Rattle.editor_names.proofs.SearchLemmas.{HaveFound}
use Rattle.editor_names.proofs.files.ranges_in_files.Given as goal

abbrev pub invariant-loop-number : goal.invariant-loop-number
invariant-loop-number g l =
    (g.T.Tree.files l.tree ≡ g.T.Tree.files l.initial.tree)
    × (g.T.Tree.asked l.tree ≡ g.T.Tree.asked l.initial.tree)
    × HaveFound (query_seen l.query) l.documents (λ name. (g.T.Tree.files l.initial.tree).told ((g.T.Tree.files l.initial.tree).real name)) (take l.number (map string_bytes l.names)) l.found.items l.is_declared l.is_whole
