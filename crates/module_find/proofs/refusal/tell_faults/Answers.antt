use Rattle.command_line.proofs.WriterLemmas.{all_taken, goes_on}
use Rattle.module_find.proofs.FaultLemmas.{fault_here}
use Rattle.module_find.proofs.refusal.tell_faults.Goals as goal

pub loop-found-preserved : goal.loop-found-preserved
loop-found-preserved g c = (
  c.in_ok-tell_fault.ensures.failed,
  goes_on _ _ _ _ _ _ _ (fault_here c.args.faults.now c.loop-found.found-index c.found-item.result c.loop-found-test.true c.found-item.is)
      (all_taken _ _ _ _ c.in_ok-tell_fault.ensures.failed c.in_ok-tell_fault.ensures.took) c.loop-found.invariant.1,
)
