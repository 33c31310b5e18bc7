use Rattle.std.proofs.Common.{map}
use Rattle.lint_forms.proofs.AddsLemmas.{added_then, adds_as, adds_then}
use Rattle.editor_messages.specs.Views.{diagnostic_seen}
use Rattle.editor_messages.proofs.DiagnosticLemmas.{message_tokens}
use Rattle.editor_messages.proofs.diagnostic.write_message.Goals as goal

pub returns : goal.returns
returns c =
    let w0 = c.args.writer.now in
    let w1 = c.write_head.new.writer in
    let w2 = c.write_diagnostics.new.writer in
    let w3 = c.write_parts.new.writer in
    adds_as c.write_parts.result w0 w3 _ _ (message_tokens c.args.uri.now (map diagnostic_seen c.args.diagnostics.now))
    (adds_then c.write_parts.result w0 w2 w3 _ _ (added_then w0 w1 w2 _ _ c.in_ok-write_head.ensures c.in_ok-write_diagnostics.ensures) c.write_parts.ensures)
