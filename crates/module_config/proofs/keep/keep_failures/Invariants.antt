use Rattle.std.proofs.Common.{flat_map, take}
use Rattle.module_find.specs.KeptRefusals.{KeepsAll}
use Rattle.module_config.specs.Refusals.{failure_refusals}
use Rattle.module_config.proofs.keep.keep_failures.Given as goal

abbrev pub invariant-loop-found : goal.invariant-loop-found
invariant-loop-found l = KeepsAll l.initial.kept l.kept (flat_map (failure_refusals l.start) (take l.found-index l.all))
