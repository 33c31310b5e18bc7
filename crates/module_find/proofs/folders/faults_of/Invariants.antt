use Rattle.std.proofs.Common.{◌≡◌, flat_map, map, take}
use Rattle.file_tree.specs.Seen.{all_found}
use Rattle.module_find.specs.Modules.{lost_of, told_as}
use Rattle.module_find.proofs.folders.faults_of.Given as goal

abbrev pub invariant-loop-one : goal.invariant-loop-one
invariant-loop-one l = map told_as l.faults.items ≡ map told_as (flat_map lost_of (all_found l.named (take l.one-index l.looked)))
