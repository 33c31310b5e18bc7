use Rattle.std.proofs.Common.{◌++◌, List, take}
use Rattle.file_tree.specs.declared.walk.Found.{Found}
use Rattle.module_find.specs.Modules.{AreFoldersOf}
use Rattle.module_find.proofs.folders.add_folders.Given as goal

abbrev pub invariant-loop-each : goal.invariant-loop-each
invariant-loop-each l = (before : List Found) → AreFoldersOf before l.initial.folders.items → AreFoldersOf (before ++ take l.each-index l.found) l.folders.items
