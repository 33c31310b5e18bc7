use Rattle.std.proofs.Common.{◌∙◌}
use Rattle.file_tree.specs.Inner.Walking.{walk_view}
use Rattle.file_tree.proofs.FolderLemmas.{finds_whole}
use Rattle.file_tree.proofs.HearLemmas.{folder_heard}
use Rattle.file_tree.proofs.walk.find_in.Goals as goal

pub returns-clause-finds : goal.returns-clause-finds
returns-clause-finds g c =
    finds_whole (g.T.Tree.files c.args.tree.now) _ c.args.folder.now _ (walk_view c.take_folder.new.self) c.in_order.result.items
    (c.in_ok-chooser.ensures ∙ c.whole_tree.ensures) c.in_ok-take_folder.ensures.takes c.new.ensures.items c.in_order.ensures

pub returns-clause-real : goal.returns-clause-real
returns-clause-real g c = folder_heard _ _ c.in_order.result.items _ _ c.new.ensures.items c.in_ok-take_folder.ensures.hears c.in_order.ensures
