use Rattle.std.proofs.Common.{◌≡◌, false, drop}
use Rattle.std.specs.List.{flat_map}
use Rattle.tfrules_command.specs.Report.{issue_line}
use Rattle.tfrules_command.proofs.PageLemmas.{GoesOn}
use Rattle.tfrules_command.proofs.report.write_issues.Given as goal

-- the remaining lines go out after the waiting bytes, so all lines do after those that waited at first
abbrev pub invariant-loop-number : goal.invariant-loop-number
invariant-loop-number g l =
    (g.O.ByteSink.failed l.out ≡ false)
    × GoesOn (g.O.ByteSink.taken l.initial.out) (g.O.ByteSink.taken l.out) l.initial.page.items l.page.items (flat_map (issue_line (g.N.ShownNames.names l.names)) (drop l.number l.issues)) (flat_map (issue_line (g.N.ShownNames.names l.names)) l.issues)
    × (g.O.ByteSink.flushes l.out ≡ g.O.ByteSink.flushes l.initial.out)
