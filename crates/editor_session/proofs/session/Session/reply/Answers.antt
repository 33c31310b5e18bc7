use Rattle.std.proofs.Common.{refl, subst, sym}
use Rattle.std.specs.Prelude.{Err}
use Rattle.editor_messages.specs.Views.{id_seen, request_seen}
use Rattle.editor_messages.specs.declared.error.ReplyError.TheVariants.{ShutDown}
use Rattle.editor_session.specs.Answers.{IsAnswer, IsAnswerIn, fresh_answer}
use Rattle.editor_session.specs.Views.{session_seen}
use Rattle.editor_session.proofs.ReplyLemmas.{replied}
use Rattle.editor_session.proofs.session.Session.reply.Goals as goal

pub returns-in-Fresh : goal.returns-in-Fresh
returns-in-Fresh g c =
    let s = session_seen c.args.self.now in
    let disk = g.D.Disk.files c.args.disk.now in
    let request = request_seen c.args.request in
    replied (IsAnswer s disk request) (id_seen c.args.id) (fresh_answer request) c.fresh_reply.result
    (subst (IsAnswerIn s disk request (fresh_answer request)) (sym c.in-Fresh.is) refl) c.fresh_reply.ensures

pub returns-in-ShutDown : goal.returns-in-ShutDown
returns-in-ShutDown g c =
    let s = session_seen c.args.self.now in
    let disk = g.D.Disk.files c.args.disk.now in
    let request = request_seen c.args.request in
    replied (IsAnswer s disk request) (id_seen c.args.id) (Err ShutDown) c.error_reply.result
    (subst (IsAnswerIn s disk request (Err ShutDown)) (sym c.in-ShutDown.is) refl) c.error_reply.ensures
