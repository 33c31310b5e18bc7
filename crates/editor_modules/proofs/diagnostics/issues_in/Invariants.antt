use Rattle.std.proofs.Common.{◌≡◌, map, take}
use Rattle.editor_messages.specs.Views.{diagnostic_seen}
use Rattle.editor_modules.specs.FileDiagnostics.{issue_diagnostics}
use Rattle.editor_modules.proofs.diagnostics.issues_in.Given as goal

abbrev pub invariant-loop-issue : goal.invariant-loop-issue
invariant-loop-issue l =
    (l.marker ≡ record { units = l.fn.units; text = l.source })
    × (map diagnostic_seen l.all.items ≡ issue_diagnostics l.fn.units l.number l.source (take l.issue-index l.issues))
