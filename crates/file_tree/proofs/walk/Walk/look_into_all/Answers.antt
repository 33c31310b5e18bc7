use Rattle.std.proofs.Common.{◌∙◌}
use Rattle.file_tree.specs.Inner.Chosen.{chooser_view}
use Rattle.file_tree.specs.Inner.Walking.{walk_view}
use Rattle.file_tree.proofs.HearLemmas.{hears_then}
use Rattle.file_tree.proofs.TreeWalkLemmas.{walked_popped}
use Rattle.file_tree.proofs.walk.Walk.look_into_all.Goals as goal

pub loop-preserved : goal.loop-preserved
loop-preserved g c = (
  c.take_folder.ensures.unchanged.0 ∙ c.loop.invariant.0,
  λ paths before.
      walked_popped (g.T.Tree.files c.args.tree.now) (g.T.Tree.files c.loop.tree) (chooser_view c.args.chooser.now) paths c.loop.self.found.items c.loop.self.folders.items c.pop.new.self.items c.in-Some.folder c.as_slice.result.now (walk_view c.take_folder.new.self)
      c.loop.invariant.0 c.in-Some.ensures.items c.as_slice.ensures.value (c.loop.invariant.1 paths before) c.in_ok-take_folder.ensures.takes,
  hears_then _ _ _ _ _ _ c.loop.invariant.2 c.in_ok-take_folder.ensures.hears,
  c.take_folder.ensures.unchanged.1 ∙ c.loop.invariant.3,
)
