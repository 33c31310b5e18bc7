use Rattle.lint_forms.proofs.AddsLemmas.{added_then, adds_as, adds_then}
use Rattle.editor_messages.proofs.DiagnosticLemmas.{one_diagnostic}
use Rattle.editor_messages.proofs.diagnostic.write_diagnostic.Goals as goal

pub returns : goal.returns
returns c =
    let w0 = c.args.writer.now in
    let w1 = c.write_front.new.writer in
    let w2 = c.write_rule.new.writer in
    let w3 = c.write_parts.new.writer in
    adds_as c.write_parts.result w0 w3 _ _ (one_diagnostic c.args.diagnostic.range c.args.diagnostic.rule c.args.diagnostic.text.now c.severity_by-severity.result c.severity_by-severity.ensures)
    (adds_then c.write_parts.result w0 w2 w3 _ _ (added_then w0 w1 w2 _ _ c.in_ok-write_front.ensures c.in_ok-write_rule.ensures) c.write_parts.ensures)
