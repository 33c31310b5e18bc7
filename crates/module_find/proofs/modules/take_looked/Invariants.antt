use Rattle.std.proofs.Common.{Contains}
use Rattle.file_tree.specs.declared.walk.ListedFolder.{ListedFolder}
use Rattle.module_find.proofs.modules.take_looked.Given as goal

abbrev pub invariant-loop : goal.invariant-loop
invariant-loop l = (one : ListedFolder) → Contains l.looked.items one → Contains l.initial.looked.items one
