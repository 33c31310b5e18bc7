use Rattle.std.proofs.Common.{◌∙◌, ap, refl}
use Rattle.std.proofs.lemmas.Result.{IfOk-weaker}
use Rattle.std.specs.Prelude.{Ok}
use Rattle.lint_forms.specs.JsonValues.{json_text}
use Rattle.editor_messages.specs.Outlines.{folds_json}
use Rattle.editor_messages.specs.Replies.{result_json}
use Rattle.editor_messages.specs.Views.{id_seen}
use Rattle.editor_session.specs.Answers.{AreFolds}
use Rattle.editor_session.proofs.ReplyLemmas.{replied}
use Rattle.editor_session.proofs.answer.text_folds.Goals as goal

pub returns : goal.returns
returns c =
    let folds = c.in_ok-folds.folds.items in
    replied (AreFolds c.args.text.now) (id_seen c.args.id) (Ok (folds_json folds)) c.folds_reply.result (folds, c.in_ok-folds.ensures, refl)
    (IfOk-weaker c.folds_reply.result _ _ (λ reply h. h ∙ ap (λ l. json_text (result_json (id_seen c.args.id) (folds_json l))) c.as_slice.ensures.value) c.folds_reply.ensures)
