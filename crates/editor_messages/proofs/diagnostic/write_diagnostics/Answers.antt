use Rattle.std.proofs.Common.{subst}
use Rattle.lint_forms.proofs.AddsLemmas.{Added, added_then}
use Rattle.editor_messages.proofs.DiagnosticLemmas.{one_more_diagnostic}
use Rattle.editor_messages.proofs.diagnostic.write_diagnostics.Goals as goal

pub loop-diagnostic-preserved : goal.loop-diagnostic-preserved
loop-diagnostic-preserved c =
    let w0 = c.args.writer.now in
    let w1 = c.loop-diagnostic.writer in
    let w2 = c.write_diagnostic.new.writer in
    subst (Added w0 w2) (one_more_diagnostic c.args.diagnostics.now c.loop-diagnostic.diagnostic-index _ c.loop-diagnostic-test.true)
    (added_then w0 w1 w2 _ _ c.loop-diagnostic.invariant c.in_ok-write_diagnostic.ensures)
