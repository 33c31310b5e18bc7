use Rattle.std.proofs.Common.{◌∙◌, ap, sym}
use Rattle.editor_messages.specs.Views.{id_seen, text_seen}
use Rattle.editor_session.specs.Answers.{IsFormatting, named_text}
use Rattle.editor_session.specs.Inner.Replied.{text_or_error_seen}
use Rattle.editor_session.specs.Views.{session_seen}
use Rattle.editor_session.proofs.ReplyLemmas.{answered, refused}
use Rattle.editor_session.proofs.session.Session.formatting.Goals as goal

pub returns-in-Ok : goal.returns-in-Ok
returns-in-Ok c =
    let s = session_seen c.args.self.now in
    answered (IsFormatting s.units) (named_text s.documents (text_seen c.args.uri)) c.in-Ok.text.now (id_seen c.args.id) c.format_reply.result (ap text_or_error_seen (sym c.in-Ok.is) ∙ c.named_text.ensures) c.format_reply.ensures

pub returns-in-Err : goal.returns-in-Err
returns-in-Err c =
    let s = session_seen c.args.self.now in
    refused (IsFormatting s.units) (named_text s.documents (text_seen c.args.uri)) c.in-Err.error (id_seen c.args.id) c.error_reply.result (ap text_or_error_seen (sym c.in-Err.is) ∙ c.named_text.ensures) c.error_reply.ensures
