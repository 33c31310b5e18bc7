use Rattle.std.proofs.Common.{◌∙◌, refl}
use Rattle.file_tree.specs.Inner.Chosen.{chooser_view}
use Rattle.file_tree.proofs.SearchLemmas.{searches_more, searches_none}
use Rattle.file_tree.proofs.walk.Search.look_into_all.Goals as goal

pub loop-init : goal.loop-init
loop-init g c = (refl, searches_none (g.T.Tree.files c.args.tree.now) (chooser_view c.args.chooser.now) _ _ c.args.self.now refl, refl)

pub loop-preserved : goal.loop-preserved
loop-preserved g c = (
  c.look_into.ensures.unchanged.0 ∙ c.loop.invariant.0,
  searches_more (g.T.Tree.files c.args.tree.now) (g.T.Tree.files c.loop.tree) (chooser_view c.args.chooser.now) _ _ _ c.args.self.now c.loop.self _ c.look_into.new.self c.pop.new.self.items c.in-Some.folder c.loop.invariant.0
      c.loop.invariant.1 c.in-Some.ensures.items refl refl c.in_ok-look_into.ensures.looks,
  c.look_into.ensures.unchanged.1 ∙ c.loop.invariant.2,
)
