use Rattle.std.proofs.Common.{◌∙◌, ap}
use Rattle.json.specs.Tree.{json_tokens}
use Rattle.lint_forms.proofs.AddsLemmas.{added_then, adds_as, adds_then}
use Rattle.editor_messages.specs.Replies.{capabilities_by}
use Rattle.editor_messages.proofs.NamedLemmas.{capabilities_tokens}
use Rattle.editor_messages.proofs.reply.write_capabilities.Goals as goal

pub returns : goal.returns
returns c =
    let w0 = c.args.writer.now in
    let w1 = c.write_capabilities_head.new.writer in
    let w2 = c.write_rename_ability.new.writer in
    let w3 = c.write_capabilities_tail.new.writer in
    let prepares = c.args.abilities.prepares_renames in
    adds_as c.write_capabilities_tail.result w0 w3 _ _
    (capabilities_tokens c.args.version.now c.encoding_name-encoding.result.now prepares
    ∙ ap (λ name. json_tokens (capabilities_by c.args.version.now name prepares)) c.encoding_name-encoding.ensures)
    (adds_then c.write_capabilities_tail.result w0 w2 w3 _ _ (added_then w0 w1 w2 _ _ c.in_ok-write_capabilities_head.ensures c.in_ok-write_rename_ability.ensures) c.write_capabilities_tail.ensures)
