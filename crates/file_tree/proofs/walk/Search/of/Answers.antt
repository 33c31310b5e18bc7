use Rattle.std.proofs.Common.{refl}
use Rattle.file_tree.specs.Inner.Chosen.{chooser_view}
use Rattle.file_tree.proofs.SearchLemmas.{sees_all}
use Rattle.file_tree.proofs.walk.Search.of.Goals as goal

pub returns-clause-sees : goal.returns-clause-sees
returns-clause-sees g c =
    sees_all (g.T.Tree.files c.args.tree.now) (g.T.Tree.files c.from_names.new.tree) (chooser_view c.args.chooser.now) _ _ _ _ c.in_ok-walk.walk _ c.look_into_all.new.self c.from_names.ensures.unchanged.0 refl c.new.ensures.items c.in_ok-walk.ensures.walked
    c.in_ok-walk.ensures.real c.in_ok-look_into_all.ensures.searches c.in_ok-look_into_all.ensures.none
