use Rattle.std.proofs.Common.{subst}
use Rattle.lint_forms.proofs.AddsLemmas.{Added, added_then}
use Rattle.json.specs.Tree.{json_tokens}
use Rattle.text_places.specs.PlacedEdits.{in_range}
use Rattle.editor_messages.specs.Replies.{edit_json}
use Rattle.editor_messages.proofs.NamedLemmas.{one_more_seen}
use Rattle.editor_messages.proofs.rename.write_renamings.Goals as goal

pub loop-range-preserved : goal.loop-range-preserved
loop-range-preserved c =
    let w0 = c.args.writer.now in
    let w1 = c.loop-range.writer in
    let w2 = c.write_edit.new.writer in
    subst (Added w0 w2) (one_more_seen (λ edit. json_tokens (edit_json edit)) (λ range. in_range range c.args.name.now) c.args.ranges.now c.loop-range.range-index _ c.loop-range-test.true)
    (added_then w0 w1 w2 _ _ c.loop-range.invariant c.in_ok-write_edit.ensures)
