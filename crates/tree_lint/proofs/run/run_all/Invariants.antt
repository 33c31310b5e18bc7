use Rattle.std.proofs.Common.{◌≡◌, [], false, take}
use Rattle.tree_lint.proofs.TreeRunLemmas.{SoFar}
use Rattle.tree_lint.proofs.run.run_all.Given as goal

abbrev pub invariant-loop-one : goal.invariant-loop-one
invariant-loop-one g l =
    (g.O.ByteSink.failed l.streams.out ≡ false) × (g.E.ByteSink.failed l.streams.err ≡ false) × (l.files.is_out ≡ false)
    × (g.T.Tree.files l.files.tree ≡ g.T.Tree.files l.initial.files.tree)
    × (g.T.Tree.asked l.files.tree ≡ g.T.Tree.asked l.initial.files.tree)
    × SoFar (g.T.Tree.files l.initial.files.tree) l.manner [] (take l.one-index l.modules) (g.T.Tree.faults l.initial.files.tree) (g.T.Tree.faults l.files.tree)
    (g.O.ByteSink.taken l.initial.streams.out) (g.O.ByteSink.taken l.streams.out) (g.E.ByteSink.taken l.initial.streams.err) (g.E.ByteSink.taken l.streams.err) l.has_output l.status l.counts l.kept
