use Rattle.std.proofs.Common.{map}
use Rattle.file_tree.specs.Choices.{choice_view}
use Rattle.file_tree.specs.Inner.Walking.{walk_view}
use Rattle.file_tree.proofs.TreeWalkLemmas.{finds_chosen}
use Rattle.file_tree.proofs.HearLemmas.{real_chosen}
use Rattle.file_tree.proofs.walk.find.Goals as goal

pub returns-clause-finds : goal.returns-clause-finds
returns-clause-finds g c =
    finds_chosen (g.T.Tree.files c.args.tree.now) (g.T.Tree.files c.from_names.new.tree) _ (choice_view c.args.choice) (map (λ operand. operand.now) c.args.operands.now) (walk_view c.in_ok-walk.walk)
    c.look_into_all.new.self.found.items c.in_order.result.items
    c.from_names.ensures.unchanged.0 c.in_ok-chooser.ensures c.in_ok-walk.ensures.walked c.in_ok-look_into_all.ensures.walked c.in_order.ensures

pub returns-clause-real : goal.returns-clause-real
returns-clause-real g c = real_chosen _ _ _ _ _ _ _ _ _ _ c.in_ok-chooser.ensures c.in_ok-walk.ensures.real c.in_ok-look_into_all.ensures.hears c.in_order.ensures
