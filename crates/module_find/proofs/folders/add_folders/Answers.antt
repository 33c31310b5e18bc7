use Rattle.std.proofs.Common.{append-nil, subst, sym}
use Rattle.module_find.specs.Modules.{AreFoldersOf}
use Rattle.module_find.proofs.ModuleLemmas.{folders_more}
use Rattle.module_find.proofs.folders.add_folders.Goals as goal

pub loop-each-init : goal.loop-each-init
loop-each-init c = λ before so. subst (λ l. AreFoldersOf l c.args.folders.now.items) (sym (append-nil before)) so

pub loop-each-preserved : goal.loop-each-preserved
loop-each-preserved c = λ before so.
    folders_more before c.args.found.now c.loop-each.each-index c.each-item.result _ _ c.loop-each-test.true c.each-item.is (c.loop-each.invariant before so) c.in_ok-add_folder.ensures
