use Rattle.std.proofs.Common.{◌∙◌, ap}
use Rattle.std.specs.Prelude.{None}
use Rattle.editor_session.specs.Sessions.{with_text}
use Rattle.editor_session.specs.Views.{session_seen}
use Rattle.editor_session.proofs.LossLemmas.{lost}
use Rattle.editor_session.proofs.session.Session.take_text.Goals as goal

pub returns-in-Err-clause-lost : goal.returns-in-Err-clause-lost
returns-in-Err-clause-lost g c =
    let lose = with_text c.args.uri.now None None in
    c.lose.ensures ∙ ap lose c.in-Err.ensures.unchanged ∙ ap lose c.in_ok-keep.ensures.kept ∙ lost c.args.uri.now c.args.version c.args.text.now (session_seen c.args.self.now)
