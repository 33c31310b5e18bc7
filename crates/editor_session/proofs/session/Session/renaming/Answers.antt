use Rattle.std.proofs.Common.{◌≡◌, ◌∙◌, ap, refl, subst}
use Rattle.std.specs.Prelude.{Err, None, Some}
use Rattle.tf_names.specs.Names.{with_last_part}
use Rattle.editor_messages.specs.Views.{id_seen}
use Rattle.editor_messages.specs.declared.error.ReplyError.TheVariants.{NoName}
use Rattle.editor_names.specs.Names.{HasNameAt}
use Rattle.editor_names.specs.Views.{found_seen, name_at_seen, named_seen, query_seen}
use Rattle.editor_names.specs.declared.query.Wanted.TheVariants.{All}
use Rattle.editor_session.specs.Inner.Placed.{text_place_seen}
use Rattle.editor_session.specs.Names.{AreRanges, IsRenaming, query_for, renaming}
use Rattle.editor_session.specs.Views.{session_seen}
use Rattle.editor_session.proofs.ReplyLemmas.{replied}
use Rattle.editor_session.proofs.session.Session.renaming.Goals as goal

pub returns-in_default : goal.returns-in_default
returns-in_default g c =
    let s = session_seen c.args.self.now in
    let p = text_place_seen c.args.at in
    let has = subst (λ n. HasNameAt s.units p.place p.text (named_seen n)) c.in_default.is c.in_ok-named.ensures in
    replied (IsRenaming s (g.D.Disk.files c.args.disk.now) c.args.new.now p) (id_seen c.args.id) (Err NoName) c.error_reply.result (None, has, refl) c.error_reply.ensures

pub returns : goal.returns
returns g c =
    let s = session_seen c.args.self.now in
    let disk = g.D.Disk.files c.args.disk.now in
    let p = text_place_seen c.args.at in
    let new = c.args.new.now in
    let seen = name_at_seen c.in-Some.named in
    let old = found_seen c.in_ok-old.old in
    let taken = found_seen c.in_ok-taken.taken in
    let has = subst (λ n. HasNameAt s.units p.place p.text (named_seen n)) c.in-Some.is c.in_ok-named.ensures in
    let query : query_seen c.query.result ≡ query_for s seen.name All = c.query.ensures ∙ ap (λ m. query_for s m All) c.name-name.ensures in
    let renamed : query_seen c.query-renamed.result ≡ query_for s (with_last_part new seen.name) All = c.query-renamed.ensures ∙ ap (λ m. query_for s m All) (c.with_last_part.ensures ∙ ap (with_last_part new) c.name-name.ensures) in
    let are_old = subst (λ q. AreRanges s disk p q old) query c.in_ok-old.ensures in
    let are_taken = subst (λ q. AreRanges s disk p q taken) renamed c.in_ok-taken.ensures in
    replied (IsRenaming s disk new p) (id_seen c.args.id) (renaming s new old taken) c.changes.result (Some seen, has, (old, taken, are_old, are_taken, refl)) c.changes.ensures
