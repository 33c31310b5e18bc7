use Rattle.std.proofs.Common.{◌≡◌, ◌∙◌, [], ap, map, refl, subst}
use Rattle.std.proofs.lemmas.Result.{IfOk-weaker}
use Rattle.std.specs.Prelude.{None, Ok, Some}
use Rattle.lint_forms.specs.JsonValues.{json_text}
use Rattle.editor_messages.specs.Names.{locations_json}
use Rattle.editor_messages.specs.Replies.{result_json}
use Rattle.editor_messages.specs.Views.{document_ranges_seen, id_seen}
use Rattle.editor_names.specs.Names.{HasNameAt}
use Rattle.editor_names.specs.Views.{found_seen, name_at_seen, named_seen, query_seen}
use Rattle.editor_session.specs.Inner.Placed.{text_place_seen}
use Rattle.editor_session.specs.Names.{AreLocations, AreRanges, query_for}
use Rattle.editor_session.specs.Views.{session_seen}
use Rattle.editor_session.proofs.ReplyLemmas.{replied}
use Rattle.editor_session.proofs.session.Session.locations.Goals as goal

pub returns-in_default : goal.returns-in_default
returns-in_default g c =
    let s = session_seen c.args.self.now in
    let p = text_place_seen c.args.at in
    let has = subst (λ n. HasNameAt s.units p.place p.text (named_seen n)) c.in_default.is c.in_ok-named.ensures in
    replied (AreLocations s (g.D.Disk.files c.args.disk.now) c.args.wanted p) (id_seen c.args.id) (Ok (locations_json [])) c.locations_reply.result (None, has, refl) c.locations_reply.ensures

pub returns : goal.returns
returns g c =
    let s = session_seen c.args.self.now in
    let disk = g.D.Disk.files c.args.disk.now in
    let p = text_place_seen c.args.at in
    let id = id_seen c.args.id in
    let seen = name_at_seen c.in-Some.named in
    let found = found_seen c.in_ok-found.found in
    let has = subst (λ n. HasNameAt s.units p.place p.text (named_seen n)) c.in-Some.is c.in_ok-named.ensures in
    let query : query_seen c.query-query.result ≡ query_for s seen.name c.args.wanted = c.query-query.ensures ∙ ap (λ m. query_for s m c.args.wanted) c.name.ensures in
    let are = subst (λ q. AreRanges s disk p q found) query c.in_ok-found.ensures in
    replied (AreLocations s disk c.args.wanted p) id (Ok (locations_json found.documents)) c.locations_reply-2.result (Some seen, has, (found, are, refl))
    (IfOk-weaker c.locations_reply-2.result _ _ (λ reply h. h ∙ ap (λ ds. json_text (result_json id (locations_json (map document_ranges_seen ds)))) c.as_slice.ensures.value) c.locations_reply-2.ensures)
