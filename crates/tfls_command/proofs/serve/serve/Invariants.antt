use Rattle.editor_session.specs.Views.{session_seen}
use Rattle.tfls_command.proofs.RunLemmas.{IsGoing}
use Rattle.tfls_command.proofs.serve.serve.Given as goal

abbrev pub invariant-loop : goal.invariant-loop
invariant-loop g l =
    IsGoing (g.D.Disk.files l.host.disk) (session_seen l.session) (g.I.ByteSource.left l.initial.input) (g.I.ByteSource.left l.input) (g.O.ByteSink.taken l.initial.out) (g.O.ByteSink.taken l.out) l.inbox
    (g.I.ByteSource.failed l.input) (g.O.ByteSink.failed l.out)
