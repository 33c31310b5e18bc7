use Rattle.std.proofs.Common.{◌++◌, replicate}
use Rattle.hcl_layout.proofs.OutLemmas.{cut_short_blanks, cut_short_more}
use Rattle.hcl_layout.proofs.writer.push_blanks.Goals as goal

pub returns-in-Err-clause-err : goal.returns-in-Err-clause-err
returns-in-Err-clause-err g c base front p = cut_short_more base _ front (replicate c.args.gap 32) c.in-Err.fault (c.in-Err.ensures.err base front p)

pub returns-in-Err-push-clause-err : goal.returns-in-Err-push-clause-err
returns-in-Err-push-clause-err g c base front p =
    cut_short_blanks base _ front c.loop.counter c.args.gap c.in-Err-push.fault c.loop-test.true (c.in-Err-push.ensures.err base (front ++ replicate c.loop.counter 32) (c.loop.invariant.out base front p))
