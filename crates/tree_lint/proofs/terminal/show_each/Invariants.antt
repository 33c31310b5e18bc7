use Rattle.std.proofs.Common.{◌≡◌, false, drop}
use Rattle.std.specs.List.{flat_map}
use Rattle.command_line.proofs.WriterLemmas.{Goes}
use Rattle.tree_lint.specs.Runs.{shown_issue}
use Rattle.tree_lint.proofs.terminal.show_each.Given as goal

-- if the writer takes the remaining lines, it has taken all of them
abbrev pub invariant-loop-number : goal.invariant-loop-number
invariant-loop-number g l =
    (g.O.ByteSink.failed l.out ≡ false)
    × Goes (g.O.ByteSink.taken l.initial.out) (g.O.ByteSink.taken l.out) (flat_map (shown_issue (g.N.ShownNames.names l.names) l.texts) (drop l.number l.issues)) (flat_map (shown_issue (g.N.ShownNames.names l.names) l.texts) l.issues)
    × (l.lines ≡ l.texts)
