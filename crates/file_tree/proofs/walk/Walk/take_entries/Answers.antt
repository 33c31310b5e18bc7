use Rattle.std.proofs.Common.{◌∙◌}
use Rattle.file_tree.specs.Inner.Chosen.{chooser_view}
use Rattle.file_tree.proofs.HearLemmas.{hears_then}
use Rattle.file_tree.proofs.TreeWalkLemmas.{took_more}
use Rattle.file_tree.proofs.walk.Walk.take_entries.Goals as goal

pub loop-name-preserved : goal.loop-name-preserved
loop-name-preserved g c = (
  c.take_entry.ensures.unchanged.0 ∙ c.loop-name.invariant.0,
  took_more _ _ (chooser_view c.args.chooser.now) _ _ _ _ _ _ _ c.loop-name.invariant.0 c.loop-name-test.true c.loop-name.invariant.1 c.in_ok-take_entry.ensures.takes,
  hears_then _ _ _ _ _ _ c.loop-name.invariant.2 c.in_ok-take_entry.ensures.hears,
  c.take_entry.ensures.unchanged.1 ∙ c.loop-name.invariant.3,
)
