use Rattle.std.proofs.Common.{◌∙◌}
use Rattle.file_tree.proofs.HearLemmas.{real_taken}
use Rattle.file_tree.proofs.TreeWalkLemmas.{walked_more}
use Rattle.file_tree.proofs.walk.Walk.from_names.Goals as goal

pub loop-path-preserved : goal.loop-path-preserved
loop-path-preserved g c = (
  c.take_given.ensures.unchanged.0 ∙ c.loop-path.invariant.0,
  walked_more _ _ _ _ _ _ _ _ c.loop-path.invariant.0 c.loop-path-test.true c.loop-path.invariant.1 c.in_ok-take_given.ensures.takes,
  real_taken _ _ _ _ _ _ _ _ _ _ _ c.loop-path.invariant.0 c.loop-path-test.true c.loop-path.invariant.2 c.in_ok-take_given.ensures.hears,
  c.take_given.ensures.unchanged.1 ∙ c.loop-path.invariant.3,
)
