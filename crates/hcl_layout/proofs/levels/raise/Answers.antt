use Rattle.std.proofs.Common.{◌∙◌}
use Rattle.hcl_layout.proofs.LevelLemmas.{raised_more}
use Rattle.hcl_layout.proofs.levels.raise.Goals as goal

pub loop-depth-preserved : goal.loop-depth-preserved
loop-depth-preserved c = c.loop-depth.invariant ∙ raised_more c.loop-depth.levels c.args.level c.loop-depth.depth c.args.to c.loop-depth-test.true
