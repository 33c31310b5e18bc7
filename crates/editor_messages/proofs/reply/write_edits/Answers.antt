use Rattle.std.proofs.Common.{[], length}
use Rattle.editor_messages.proofs.EditTokenLemmas.{ascend_within, next_ascends, one_more_written}
use Rattle.editor_messages.proofs.reply.write_edits.Goals as goal

pub place_edit-requires-clause-within : goal.place_edit-requires-clause-within
place_edit-requires-clause-within c =
    let n = c.loop-edit.edit-index in
    let edits = c.args.edits.now in
    let a = next_ascends c.loop-edit.walk.offset (length c.args.text.now) n edits (record { from = 0; to = 0; text = record { ref_ptr = (0, 0); now = [] } }) c.loop-edit-test.true c.loop-edit.invariant.ascend in
    ascend_within _ _ _ a.2

pub loop-edit-preserved : goal.loop-edit-preserved
loop-edit-preserved c =
    one_more_written c.args.units c.args.text.now c.args.edits.now c.loop-edit.edit-index _ c.loop-edit.walk c.place_edit.result.0 _ c.args.writer.now c.loop-edit.writer c.write_edit.new.writer
    c.loop-edit-test.true c.loop-edit.invariant c.place_edit.ensures.walk c.place_edit.ensures.offset c.place_edit.ensures.range c.in_ok-write_edit.ensures
