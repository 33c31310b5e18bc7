use Rattle.std.proofs.Common.{◌∙◌}
use Rattle.module_config.proofs.ReadLemmas.{placed_more}
use Rattle.module_config.proofs.configure.place_all.Goals as goal

pub loop-module-preserved : goal.loop-module-preserved
loop-module-preserved g c = (
  c.add_placed.ensures.unchanged.0 ∙ c.loop-module.invariant.0,
  c.add_placed.ensures.unchanged.1 ∙ c.loop-module.invariant.1,
  placed_more _ _ c.args.start.now c.loop-module.yielded c.in-Some.module _ _ _ _ _ c.loop-module.invariant.0 c.loop-module.invariant.2 c.in_ok-add_placed.ensures.adds,
)
