use Rattle.std.proofs.Common.{inr, subst}
use Rattle.std.proofs.lemmas.Result.{IfOk-weaker}
use Rattle.std.specs.Prelude.{Some}
use Rattle.json.specs.Value.{value_view}
use Rattle.editor_session.specs.Steps.{IsStepOrShort}
use Rattle.editor_session.specs.Views.{session_seen}
use Rattle.editor_session.proofs.session.Session.step.Goals as goal

pub returns-in-Ok : goal.returns-in-Ok
returns-in-Ok g c =
    let before = session_seen c.args.self.now in
    let after = session_seen c.take.new.self in
    IfOk-weaker c.take.result _ _
    (λ turn h. inr (Some (value_view c.in-Ok.value), c.in-Ok.ensures.ok, subst (λ m. IsStepOrShort (g.D.Disk.files c.args.disk.now) m before after turn) c.message_of.ensures.message h))
    c.take.ensures
