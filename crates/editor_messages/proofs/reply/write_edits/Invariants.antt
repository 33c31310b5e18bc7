use Rattle.editor_messages.proofs.EditTokenLemmas.{AreWritten}
use Rattle.editor_messages.proofs.reply.write_edits.Given as goal

abbrev pub invariant-loop-edit : goal.invariant-loop-edit
invariant-loop-edit l = AreWritten l.units l.text l.edits l.edit-index l.walk l.initial.writer l.writer
