use Rattle.command_line.proofs.WriterLemmas.{all_taken, goes_on, goes_wrong}
use Rattle.module_config.proofs.WordLemmas.{lines_here}
use Rattle.module_config.specs.Words.{bad_line}
use Rattle.module_config.proofs.words.tell_lines.Goals as goal

pub returns-in_err-tell_line-clause-took : goal.returns-in_err-tell_line-clause-took
returns-in_err-tell_line-clause-took g c =
    goes_wrong _ _ _ _ _ _ _ _ (lines_here (bad_line c.args.name.now) c.args.all.now c.loop-bad.bad-index c.bad-item.result c.loop-bad-test.true c.bad-item.is) c.in_err-tell_line.ensures.failed c.in_err-tell_line.ensures.took
    c.loop-bad.invariant.1

pub loop-bad-preserved : goal.loop-bad-preserved
loop-bad-preserved g c = (
  c.in_ok-tell_line.ensures.failed,
  goes_on _ _ _ _ _ _ _ (lines_here (bad_line c.args.name.now) c.args.all.now c.loop-bad.bad-index c.bad-item.result c.loop-bad-test.true c.bad-item.is)
      (all_taken _ _ _ _ c.in_ok-tell_line.ensures.failed c.in_ok-tell_line.ensures.took) c.loop-bad.invariant.1,
)
