use Rattle.std.proofs.Common.{refl}
use Rattle.command_line.specs.Rows.{writer}
use Rattle.editor_session.specs.Views.{session_seen}
use Rattle.tfls_command.proofs.RunLemmas.{ends_going, goes_first, goes_on, has_ended}
use Rattle.tfls_command.proofs.serve.serve.Goals as goal

pub loop-init : goal.loop-init
loop-init g c =
    goes_first _ (session_seen c.new-session.result) _ _ _ _ c.new-inbox.result c.new-inbox.ensures c.new-session.ensures c.requires.input c.requires.out

pub returns-in-Some : goal.returns-in-Some
returns-in-Some g c =
    let going = c.loop.invariant in
    has_ended _ _ _ _ _ _ _ _ _ (writer g.O.ByteSink c.loop.out c.take_turn.new.out) (writer g.O.ByteSink c.args.out.now c.take_turn.new.out) c.in-Some.ending going.come refl refl
    c.in-Some.ensures.takes

pub loop-preserved : goal.loop-preserved
loop-preserved g c =
    goes_on _ (session_seen c.loop.session) (session_seen c.take_turn.new.session) _ _ _ _ _ _ _ _ _ (writer g.O.ByteSink c.loop.out c.take_turn.new.out) c.loop.invariant
    c.in-None.ensures.takes (c.in-None.ensures.input refl) (c.in-None.ensures.out refl)

pub returns : goal.returns
returns g c = ends_going _ _ _ _ _ _ (writer g.O.ByteSink c.args.out.now c.loop.out) c.loop.invariant
