use Rattle.command_line.proofs.WriterLemmas.{all_taken, goes_on, goes_wrong}
use Rattle.tfls_command.proofs.FrameLemmas.{frame_here}
use Rattle.tfls_command.proofs.serve.write_frames.Goals as goal

pub returns-in-Err-clause-took : goal.returns-in-Err-clause-took
returns-in-Err-clause-took g c =
    goes_wrong _ _ _ _ _ _ _ _ (frame_here c.args.messages.now c.loop-message.message-index c.message-item.result _ c.loop-message-test.true c.message-item.is c.as_slice.ensures.value) c.in-Err.ensures.failed c.in-Err.ensures.took
    c.loop-message.invariant.1

pub loop-message-preserved : goal.loop-message-preserved
loop-message-preserved g c = (
  c.in_default.ensures.failed,
  goes_on _ _ _ _ _ _ _ (frame_here c.args.messages.now c.loop-message.message-index c.message-item.result _ c.loop-message-test.true c.message-item.is c.as_slice.ensures.value)
      (all_taken _ _ _ _ c.in_default.ensures.failed c.in_default.ensures.took) c.loop-message.invariant.1,
)
