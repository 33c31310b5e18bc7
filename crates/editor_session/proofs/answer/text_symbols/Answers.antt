use Rattle.std.proofs.Common.{◌∙◌, ap, map, refl}
use Rattle.std.proofs.lemmas.Result.{IfOk-weaker}
use Rattle.std.specs.Prelude.{Ok}
use Rattle.lint_forms.specs.JsonValues.{json_text}
use Rattle.editor_messages.specs.Outlines.{symbols_json}
use Rattle.editor_messages.specs.Replies.{result_json}
use Rattle.editor_messages.specs.Views.{id_seen}
use Rattle.text_outline.specs.Views.{symbol_seen}
use Rattle.editor_session.specs.Answers.{AreSymbols}
use Rattle.editor_session.proofs.ReplyLemmas.{replied}
use Rattle.editor_session.proofs.answer.text_symbols.Goals as goal

pub returns : goal.returns
returns c =
    let symbols = map symbol_seen c.in_ok-symbols.symbols.items in
    replied (AreSymbols c.args.units c.args.text.now) (id_seen c.args.id) (Ok (symbols_json symbols)) c.symbols_reply.result (symbols, c.in_ok-symbols.ensures, refl)
    (IfOk-weaker c.symbols_reply.result _ _ (λ reply h. h ∙ ap (λ l. json_text (result_json (id_seen c.args.id) (symbols_json (map symbol_seen l)))) c.as_slice.ensures.value) c.symbols_reply.ensures)
