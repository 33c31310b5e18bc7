use Rattle.std.proofs.Common.{ap, sym}
use Rattle.json.specs.Tree.{json_tokens}
use Rattle.lint_forms.proofs.AddsLemmas.{adds_as}
use Rattle.editor_messages.specs.Replies.{rename_ability}
use Rattle.editor_messages.proofs.reply.write_rename_ability.Goals as goal

pub returns-then-prepares : goal.returns-then-prepares
returns-then-prepares c =
    adds_as c.write_parts.result c.args.writer.now c.write_parts.new.writer _ _
    (ap (λ b. json_tokens (rename_ability b)) (sym c.if-prepares.true)) c.write_parts.ensures
