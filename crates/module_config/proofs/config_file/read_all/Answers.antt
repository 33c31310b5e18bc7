use Rattle.std.proofs.Common.{◌∙◌}
use Rattle.module_config.proofs.ReadLemmas.{files_more}
use Rattle.module_config.proofs.config_file.read_all.Goals as goal

pub loop-each-preserved : goal.loop-each-preserved
loop-each-preserved g c = (
  c.add_file.ensures.unchanged.0 ∙ c.loop-each.invariant.0,
  c.add_file.ensures.unchanged.1 ∙ c.loop-each.invariant.1,
  files_more _ _ c.loop-each.yielded c.in-Some.each _ _ _ _ _ c.loop-each.invariant.0 c.loop-each.invariant.2 c.in_ok-add_file.ensures.adds,
)
