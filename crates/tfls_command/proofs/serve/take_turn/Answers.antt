use Rattle.std.proofs.Common.{subst}
use Rattle.editor_session.specs.Steps.{Steps}
use Rattle.editor_session.specs.Views.{session_seen}
use Rattle.tfls_command.proofs.TurnLemmas.{ended_turn, goes_out, sent_turn, wrote_nothing}
use Rattle.tfls_command.proofs.serve.take_turn.Goals as goal

pub returns-in-End-clause-takes : goal.returns-in-End-clause-takes
returns-in-End-clause-takes g c =
    let received = c.in-End.ensures.received in
    ended_turn _ _ _ _ _ received.bytes _ _ _ _ _ received.read (wrote_nothing _ _ c.requires.out) tt (received.receives.0, c.in-End.ensures.end)

pub returns-in-Malformed-clause-takes : goal.returns-in-Malformed-clause-takes
returns-in-Malformed-clause-takes g c =
    let received = c.in-Malformed.ensures.received in
    ended_turn _ _ _ _ _ received.bytes _ _ _ _ _ received.read (wrote_nothing _ _ c.requires.out) tt received.receives.0

pub returns-in-Ok-clause-takes : goal.returns-in-Ok-clause-takes
returns-in-Ok-clause-takes g c =
    let received = c.in-Message.ensures.received in
    let steps = subst (λ body. Steps (g.D.Disk.files c.args.disk.now) body (session_seen c.args.session.now) (session_seen c.step.new.self) c.in-Ok.turn) c.as_slice.ensures.value c.in-Ok.ensures in
    sent_turn _ _ _ _ _ received.bytes c.in-Message.body.items _ _ _ _ c.in-Ok.turn _ received.read received.receives steps c.send.ensures

pub returns-in-Ok-clause-out : goal.returns-in-Ok-clause-out
returns-in-Ok-clause-out g c = goes_out c.in-Ok.turn _ c.send.result c.send.ensures.1

pub returns-clause-takes : goal.returns-clause-takes
returns-clause-takes g c =
    let received = c.in-Message.ensures.received in
    ended_turn _ _ _ _ _ received.bytes _ _ _ _ _ received.read (wrote_nothing _ _ c.requires.out) tt tt

pub returns-in-Failed-clause-takes : goal.returns-in-Failed-clause-takes
returns-in-Failed-clause-takes g c =
    let received = c.in-Failed.ensures.received in
    ended_turn _ _ _ _ _ received.bytes _ _ _ _ _ received.read (wrote_nothing _ _ c.requires.out) tt c.in-Failed.ensures.failed
