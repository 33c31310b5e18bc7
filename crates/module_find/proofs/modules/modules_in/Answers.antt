use Rattle.std.specs.Prelude.{None}
use Rattle.file_tree.specs.declared.walk.Found.{Found}
use Rattle.module_find.proofs.ModuleLemmas.{is_alone}
use Rattle.module_find.proofs.modules.modules_in.Goals as goal

pub returns-clause-are : goal.returns-clause-are
returns-clause-are g c =
    let named : Found = record { name = c.in_ok-join.field-0; fault = None; file = None } in
    is_alone (g.T.Tree.files c.args.tree.now) c.args.folder.now named c.new-folders.result.items c.push.new.self.items c.new.result.items c.in_ok-found.found.modules.items c.in_ok-found.found.faults.items
    (g.T.Tree.faults c.args.tree.now) (g.T.Tree.faults c.modules_of.new.tree) c.in_ok-join.ensures c.new-folders.ensures.items c.in-Ok.ensures.items c.new.ensures.items c.in_ok-found.ensures.are
