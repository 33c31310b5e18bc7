use Rattle.std.specs.Prelude.{codes}
use Rattle.lint_forms.proofs.AddsLemmas.{added_then, adds_as, adds_then}
use Rattle.editor_messages.specs.Replies.{capabilities_json}
use Rattle.editor_messages.specs.Views.{id_seen}
use Rattle.editor_messages.proofs.ReplyLemmas.{reply_tokens}
use Rattle.editor_messages.proofs.reply.write_capabilities_reply.Goals as goal

pub returns : goal.returns
returns c =
    let w0 = c.args.writer.now in
    let w1 = c.write_head.new.writer in
    let w2 = c.write_capabilities.new.writer in
    let w3 = c.write_end.new.writer in
    adds_as c.write_end.result w0 w3 _ _ (reply_tokens (id_seen c.args.id) (codes "result") (capabilities_json c.args.version.now c.args.abilities))
    (adds_then c.write_end.result w0 w2 w3 _ _ (added_then w0 w1 w2 _ _ c.in_ok-write_head.ensures c.in_ok-write_capabilities.ensures) c.write_end.ensures)
