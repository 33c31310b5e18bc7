use Rattle.file_tree.specs.Seen.{all_found}
use Rattle.module_find.proofs.ModuleLemmas.{folders_ordered}
use Rattle.module_find.proofs.folders.folders_of.Goals as goal

pub returns : goal.returns
returns c = folders_ordered (all_found c.args.named.now c.args.looked.now) c.in_ok-folders.folders.items c.in_order.result.items c.in_ok-folders.ensures c.in_order.ensures
