use Rattle.std.proofs.Common.{◌∙◌, refl, subst, sym}
use Rattle.std.specs.Prelude.{Err}
use Rattle.editor_messages.specs.Views.{id_seen, text_seen}
use Rattle.editor_messages.specs.declared.error.ReplyError.TheVariants.{NotIdentifier}
use Rattle.editor_session.specs.Inner.Placed.{text_place_seen}
use Rattle.editor_session.specs.Names.{IsRename, IsRenameIf}
use Rattle.editor_session.specs.Views.{session_seen}
use Rattle.editor_session.proofs.ReplyLemmas.{replied}
use Rattle.editor_session.proofs.session.Session.rename.Goals as goal
use Rattle.editor_session.proofs.session.Session.rename.Goals.{in_default-via-in-Some+else-is_identifier, in_default-via-in_default}

pub returns-in_default : goal.returns-in_default
returns-in_default g c =
    let s = session_seen c.args.self.now in
    let disk = g.D.Disk.files c.args.disk.now in
    let p = text_place_seen c.args.at in
    let why : IsRename s disk (text_seen c.args.new) p (Err NotIdentifier) = elim c.in_default.branch [ in_default-via-in-Some+else-is_identifier w ↦ subst (λ n. IsRename s disk (text_seen n) p (Err NotIdentifier)) (sym w.in-Some.is) (subst (IsRenameIf s disk w.in-Some.new.now p (Err NotIdentifier)) (sym (sym w.is_identifier.ensures ∙ w.if-is_identifier.false)) refl) | in_default-via-in_default w ↦ subst (λ n. IsRename s disk (text_seen n) p (Err NotIdentifier)) (sym w.in_default.is) refl ] in
    replied (IsRename s disk (text_seen c.args.new) p) (id_seen c.args.id) (Err NotIdentifier) c.error_reply.result why c.error_reply.ensures
