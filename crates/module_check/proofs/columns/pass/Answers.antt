use Rattle.std.proofs.Common.{◌∙◌, arith, sym}
use Rattle.source_snippet.proofs.ClusterLemmas.{all_dropped, one_more_dropped}
use Rattle.module_check.proofs.columns.pass.Goals as goal

pub returns-in-None : goal.returns-in-None
returns-in-None c = c.in-None.ensures.steps.1 ∙ sym (all_dropped c.loop.counter c.args.count _ (omega arith) (sym c.loop.invariant ∙ c.in-None.ensures.steps.0))

pub loop-preserved : goal.loop-preserved
loop-preserved c = one_more_dropped c.loop.counter _ _ _ (sym c.loop.invariant ∙ c.in-Some.ensures.steps)
