use Rattle.std.proofs.Common.{◌∙◌, ap, sym}
use Rattle.editor_messages.specs.Views.{id_seen, place_seen}
use Rattle.editor_session.specs.Answers.{placed_text}
use Rattle.editor_session.specs.Inner.Placed.{IsQuestionAnswer, placed_seen, text_place_seen}
use Rattle.editor_session.specs.Views.{session_seen}
use Rattle.editor_session.proofs.ReplyLemmas.{answered, refused}
use Rattle.editor_session.proofs.session.Session.name_reply.Goals as goal

pub returns-in-Ok : goal.returns-in-Ok
returns-in-Ok g c =
    let s = session_seen c.args.self.now in
    answered (IsQuestionAnswer s (g.D.Disk.files c.args.disk.now) c.args.question) (placed_text s.documents (place_seen c.args.at)) (text_place_seen c.in-Ok.at) (id_seen c.args.id) c.question_reply.result
    (ap placed_seen (sym c.in-Ok.is) ∙ c.text_place.ensures) c.question_reply.ensures

pub returns-in-Err : goal.returns-in-Err
returns-in-Err g c =
    let s = session_seen c.args.self.now in
    refused (IsQuestionAnswer s (g.D.Disk.files c.args.disk.now) c.args.question) (placed_text s.documents (place_seen c.args.at)) c.in-Err.error (id_seen c.args.id) c.error_reply.result
    (ap placed_seen (sym c.in-Err.is) ∙ c.text_place.ensures) c.error_reply.ensures
