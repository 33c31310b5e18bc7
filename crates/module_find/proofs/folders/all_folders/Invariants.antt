use Rattle.std.proofs.Common.{take}
use Rattle.file_tree.specs.Seen.{all_found}
use Rattle.module_find.specs.Modules.{AreFoldersOf}
use Rattle.module_find.proofs.folders.all_folders.Given as goal

abbrev pub invariant-loop-one : goal.invariant-loop-one
invariant-loop-one l = AreFoldersOf (all_found l.named (take l.one-index l.looked)) l.folders.items
