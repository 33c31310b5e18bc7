use Rattle.std.proofs.Common.{◌∙◌, [], ap, refl, subst}
use Rattle.std.proofs.lemmas.Result.{IfOk-weaker}
use Rattle.std.specs.Prelude.{None, Ok, Some, option_map, string_bytes}
use Rattle.lint_forms.specs.JsonValues.{json_text}
use Rattle.text_places.specs.Edits.{line_edits}
use Rattle.text_places.specs.PlacedEdits.{placed_edits}
use Rattle.editor_messages.specs.Replies.{edits_json, reply_json}
use Rattle.editor_messages.specs.Views.{id_seen}
use Rattle.text_format.specs.Format.{HasFormat}
use Rattle.editor_session.specs.Answers.{IsFormatting}
use Rattle.editor_session.proofs.ReplyLemmas.{replied}
use Rattle.editor_session.proofs.answer.format_reply.Goals as goal

pub returns-in-Some : goal.returns-in-Some
returns-in-Some c =
    let text = c.args.text.now in
    let formatted = string_bytes c.in-Some.formatted in
    let has = subst (λ o. HasFormat text (option_map string_bytes o)) c.in-Some.is c.in_ok-formatted.ensures in
    let is = ap (λ f. json_text (reply_json (id_seen c.args.id) (Ok (edits_json (placed_edits c.args.units text (line_edits text f)))))) c.as_str.ensures.value in
    replied (IsFormatting c.args.units text) (id_seen c.args.id) (Ok (edits_json (placed_edits c.args.units text (line_edits text formatted)))) c.changes_reply.result
    (Some formatted, has, refl) (IfOk-weaker c.changes_reply.result _ _ (λ reply h. h ∙ is) c.changes_reply.ensures)

pub returns-in-None : goal.returns-in-None
returns-in-None c =
    let text = c.args.text.now in
    let has = subst (λ o. HasFormat text (option_map string_bytes o)) c.in-None.is c.in_ok-formatted.ensures in
    replied (IsFormatting c.args.units text) (id_seen c.args.id) (Ok (edits_json (placed_edits c.args.units text []))) c.edits_reply.result
    (None, has, refl) c.edits_reply.ensures
