use Rattle.std.proofs.Common.{List, ap, map, subst}
use Rattle.file_tree.specs.Files.{Files}
use Rattle.editor_modules.specs.Messages.{TellsModule, message_seen}
use Rattle.editor_modules.specs.Shown.{ShownModule}
use Rattle.editor_session.specs.Views.{session_seen}
use Rattle.editor_session.proofs.TellLemmas.{on_and_if, told_linted}
use Rattle.editor_session.proofs.session.Session.tell_in.Goals as goal

pub returns-in-Ok-clause-told : goal.returns-in-Ok-clause-told
returns-in-Ok-clause-told g c =
    let s = session_seen c.args.self.now in
    let disk = g.D.Disk.files c.args.disk.now in
    let folder = c.args.folder.now in
    let on_disk = subst (λ (files : Files). TellsModule s.units s.documents files folder c.in_ok-files.field-0) c.in_ok-tree.ensures c.in_ok-files.ensures in
    let tells = subst (TellsModule s.units s.documents disk folder) c.in-Some.is on_disk in
    on_and_if c.tell.result _ _ _ c.tell.ensures.shown c.tell.ensures.told
    (λ later all says. told_linted s _ disk folder c.args.uri.now c.args.first.items c.in-Some.files.items c.append.new.self.items tells.0 (map message_seen all.items) tells.1 tells.2 c.in-Ok.ensures.items (ap (λ (shown : List ShownModule). record s { shown = shown }) later) says)
