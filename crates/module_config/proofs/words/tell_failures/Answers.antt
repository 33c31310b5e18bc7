use Rattle.command_line.proofs.WriterLemmas.{all_taken, goes_on}
use Rattle.module_config.proofs.WordLemmas.{lines_here}
use Rattle.module_config.specs.Words.{failure_lines}
use Rattle.module_config.proofs.words.tell_failures.Goals as goal

pub loop-found-preserved : goal.loop-found-preserved
loop-found-preserved g c = (
  c.in_ok-tell_failure.ensures.failed,
  goes_on _ _ _ _ _ _ _ (lines_here (failure_lines c.args.start.now) c.args.all.now c.loop-found.found-index c.found-item.result c.loop-found-test.true c.found-item.is)
      (all_taken _ _ _ _ c.in_ok-tell_failure.ensures.failed c.in_ok-tell_failure.ensures.took) c.loop-found.invariant.1,
)
