use Rattle.lint_forms.proofs.AddsLemmas.{added_then, adds_then}
use Rattle.editor_messages.proofs.reply.write_edit.Goals as goal

pub returns : goal.returns
returns c =
    let w0 = c.args.writer.now in
    let w1 = c.write_parts.new.writer in
    let w2 = c.write_range.new.writer in
    let w3 = c.write_parts-2.new.writer in
    adds_then c.write_parts-2.result w0 w2 w3 _ _ (added_then w0 w1 w2 _ _ c.in_ok-write_parts.ensures c.in_ok-write_range.ensures) c.write_parts-2.ensures
