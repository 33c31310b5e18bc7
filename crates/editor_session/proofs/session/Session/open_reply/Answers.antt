use Rattle.std.proofs.Common.{refl, subst, sym}
use Rattle.std.specs.Prelude.{Err, Ok}
use Rattle.json.specs.Json.{null}
use Rattle.editor_messages.specs.Views.{id_seen, request_seen}
use Rattle.editor_messages.specs.declared.error.ReplyError.TheVariants.{InitializedAlready, UnknownMethod}
use Rattle.editor_session.specs.Answers.{IsOpenAnswer}
use Rattle.editor_session.specs.Views.{session_seen}
use Rattle.editor_session.proofs.ReplyLemmas.{replied}
use Rattle.editor_session.proofs.session.Session.open_reply.Goals as goal

pub returns-in-Initialize : goal.returns-in-Initialize
returns-in-Initialize g c =
    let s = session_seen c.args.self.now in
    let disk = g.D.Disk.files c.args.disk.now in
    replied (IsOpenAnswer s disk (request_seen c.args.request)) (id_seen c.args.id) (Err InitializedAlready) c.error_reply.result
    (subst (λ r. IsOpenAnswer s disk (request_seen r) (Err InitializedAlready)) (sym c.in-Initialize.is) refl) c.error_reply.ensures

pub returns-in-Shutdown : goal.returns-in-Shutdown
returns-in-Shutdown g c =
    let s = session_seen c.args.self.now in
    let disk = g.D.Disk.files c.args.disk.now in
    replied (IsOpenAnswer s disk (request_seen c.args.request)) (id_seen c.args.id) (Ok null) c.null_reply.result
    (subst (λ r. IsOpenAnswer s disk (request_seen r) (Ok null)) (sym c.in-Shutdown.is) refl) c.null_reply.ensures

pub returns-in-Unknown : goal.returns-in-Unknown
returns-in-Unknown g c =
    let s = session_seen c.args.self.now in
    let disk = g.D.Disk.files c.args.disk.now in
    replied (IsOpenAnswer s disk (request_seen c.args.request)) (id_seen c.args.id) (Err UnknownMethod) c.error_reply-in-Unknown.result
    (subst (λ r. IsOpenAnswer s disk (request_seen r) (Err UnknownMethod)) (sym c.in-Unknown.is) refl) c.error_reply-in-Unknown.ensures
