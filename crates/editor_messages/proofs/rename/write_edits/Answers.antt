use Rattle.editor_messages.proofs.NamedLemmas.{all_renamings}
use Rattle.lint_forms.proofs.AddsLemmas.{added_then, adds_as, adds_then}
use Rattle.editor_messages.proofs.rename.write_edits.Goals as goal

pub returns : goal.returns
returns c =
    let w0 = c.args.writer.now in
    let w1 = c.write_parts.new.writer in
    let w2 = c.write_renamings.new.writer in
    let w3 = c.write_parts-2.new.writer in
    adds_as c.write_parts-2.result w0 w3 _ _ (all_renamings c.args.name.now c.args.ranges.now)
    (adds_then c.write_parts-2.result w0 w2 w3 _ _ (added_then w0 w1 w2 _ _ c.in_ok-write_parts.ensures c.in_ok-write_renamings.ensures) c.write_parts-2.ensures)
