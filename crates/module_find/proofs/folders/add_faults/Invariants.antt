use Rattle.std.proofs.Common.{◌≡◌, ◌++◌, flat_map, map, take}
use Rattle.module_find.specs.Modules.{lost_of, told_as}
use Rattle.module_find.proofs.folders.add_faults.Given as goal

abbrev pub invariant-loop-each : goal.invariant-loop-each
invariant-loop-each l = map told_as l.faults.items ≡ map told_as l.initial.faults.items ++ map told_as (flat_map lost_of (take l.each-index l.found))
