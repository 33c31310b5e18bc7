use Rattle.std.proofs.Common.{◌≡◌, arith, false}
use Rattle.std.proofs.lemmas.Grind.{common_steps}
use Rattle.tfls_command.specs.Frames.{frame}
use Rattle.tfls_command.proofs.OutgoingLemmas.{took_flushed}
use Rattle.tfls_command.proofs.outgoing.write_frame.Goals as goal

pub returns-clause-took : goal.returns-clause-took
returns-clause-took g c =
    let written : g.W.ByteSink.failed c.write_message.new.sink ≡ false = grind (arith, common_steps, c.write_message.ensures.failed, c.is_err.ensures.value, c.if-is_err.false) in
    took_flushed (g.W.ByteSink.taken c.args.sink.now) (g.W.ByteSink.taken c.write_message.new.sink) (g.W.ByteSink.taken c.flush.new.self) (g.W.ByteSink.failed c.write_message.new.sink) (g.W.ByteSink.failed c.flush.new.self) (frame c.args.body.now) written c.write_message.ensures.took c.flush.ensures.bytes
