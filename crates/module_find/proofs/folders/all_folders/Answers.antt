use Rattle.std.proofs.Common.{◌++◌, [], append-nil, subst, sym, take}
use Rattle.file_tree.specs.Seen.{all_found}
use Rattle.module_find.specs.Modules.{AreFoldersOf}
use Rattle.module_find.proofs.ModuleLemmas.{looked_more, no_folders}
use Rattle.module_find.proofs.folders.all_folders.Goals as goal

pub loop-one-init : goal.loop-one-init
loop-one-init c =
    subst (λ l. AreFoldersOf l c.add_folders.new.folders.items) (sym (append-nil c.args.named.now))
    (c.in_ok-add_folders.ensures [] (subst (λ l. AreFoldersOf [] l) (sym c.new-folders.ensures.items) no_folders))

pub loop-one-preserved : goal.loop-one-preserved
loop-one-preserved c =
    subst (λ l. AreFoldersOf l c.add_folders-in-loop-one.new.folders.items) (looked_more c.args.named.now c.args.looked.now c.loop-one.one-index c.one-item.result c.loop-one-test.true c.one-item.is)
    (subst (λ found. AreFoldersOf (all_found c.args.named.now (take c.loop-one.one-index c.args.looked.now) ++ found) c.add_folders-in-loop-one.new.folders.items) c.as_slice.ensures.value (c.in_ok-add_folders-2.ensures _ c.loop-one.invariant))
