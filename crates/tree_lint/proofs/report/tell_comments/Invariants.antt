use Rattle.std.proofs.Common.{◌≡◌, false, drop, map}
use Rattle.std.specs.Prelude.{flat_map, string_bytes}
use Rattle.tree_lint.specs.CommentFaults.{fault_view}
use Rattle.command_line.proofs.WriterLemmas.{Goes}
use Rattle.tree_lint.specs.Runs.{comment_line}
use Rattle.tree_lint.proofs.report.tell_comments.Given as goal

-- if the writer takes the remaining lines, it has taken all of them
abbrev pub invariant-loop-fault : goal.invariant-loop-fault
invariant-loop-fault g l =
    (g.E.ByteSink.failed l.err ≡ false)
    × Goes (g.E.ByteSink.taken l.initial.err) (g.E.ByteSink.taken l.err) (flat_map (λ f. comment_line l.shows (map string_bytes l.names) l.linted.texts.now (fault_view f)) (drop l.fault-index l.linted.comments.now))
    (flat_map (λ f. comment_line l.shows (map string_bytes l.names) l.linted.texts.now (fault_view f)) l.linted.comments.now)
    × (l.lines ≡ l.linted.texts.now)
