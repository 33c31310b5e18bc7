use Rattle.std.proofs.Common.{◌≡◌, Contains}
use Rattle.file_tree.specs.declared.walk.ListedFolder.{ListedFolder}
use Rattle.module_find.specs.Modules.{AreModules}
use Rattle.module_find.proofs.modules.modules_of.Given as goal

abbrev pub invariant-loop-folder : goal.invariant-loop-folder
invariant-loop-folder g l =
    (g.T.Tree.files l.tree ≡ g.T.Tree.files l.initial.tree) × (g.T.Tree.asked l.tree ≡ g.T.Tree.asked l.initial.tree)
    × AreModules (g.T.Tree.files l.initial.tree) l.fn.looked.items l.yielded l.all.modules.items l.all.faults.items (g.T.Tree.faults l.initial.tree) (g.T.Tree.faults l.tree)
    × ((one : ListedFolder) → Contains l.looked.items one → Contains l.fn.looked.items one)
