use Rattle.std.proofs.Common.{◌∙◌, ap, refl, subst}
use Rattle.std.proofs.lemmas.Result.{IfOk-weaker}
use Rattle.std.specs.Prelude.{None, Ok, Some}
use Rattle.json.specs.Json.{null}
use Rattle.lint_forms.specs.JsonValues.{json_text}
use Rattle.tf_names.specs.Names.{last_part}
use Rattle.editor_messages.specs.Names.{prepared_json}
use Rattle.editor_messages.specs.Replies.{result_json}
use Rattle.editor_messages.specs.Views.{id_seen}
use Rattle.editor_names.specs.Names.{HasNameAt}
use Rattle.editor_names.specs.Views.{name_at_seen, named_seen}
use Rattle.editor_session.specs.Inner.Placed.{text_place_seen}
use Rattle.editor_session.specs.Names.{IsPrepared}
use Rattle.editor_session.specs.Views.{session_seen}
use Rattle.editor_session.proofs.ReplyLemmas.{replied}
use Rattle.editor_session.proofs.session.Session.preparation.Goals as goal

pub returns-in-Some : goal.returns-in-Some
returns-in-Some c =
    let s = session_seen c.args.self.now in
    let p = text_place_seen c.args.at in
    let id = id_seen c.args.id in
    let seen = name_at_seen c.in-Some.named in
    let has = subst (λ n. HasNameAt s.units p.place p.text (named_seen n)) c.in-Some.is c.in_ok-named.ensures in
    let is = c.last_part.ensures ∙ ap last_part c.name.ensures in
    replied (IsPrepared s p) id (Ok (prepared_json seen.range (last_part seen.name))) c.prepared_reply.result (Some seen, has, refl)
    (IfOk-weaker c.prepared_reply.result _ _ (λ reply h. h ∙ ap (λ t. json_text (result_json id (prepared_json seen.range t))) is) c.prepared_reply.ensures)

pub returns-in-None : goal.returns-in-None
returns-in-None c =
    let s = session_seen c.args.self.now in
    let p = text_place_seen c.args.at in
    let has = subst (λ n. HasNameAt s.units p.place p.text (named_seen n)) c.in-None.is c.in_ok-named.ensures in
    replied (IsPrepared s p) (id_seen c.args.id) (Ok null) c.null_reply.result (None, has, refl) c.null_reply.ensures
