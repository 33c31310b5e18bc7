use Rattle.std.proofs.Common.{flat_map, take}
use Rattle.module_find.specs.Faults.{refusal_in}
use Rattle.module_find.specs.KeptRefusals.{KeepsAll}
use Rattle.module_find.proofs.kept.KeptRefusals.add_faults.Given as goal

abbrev pub invariant-loop-found : goal.invariant-loop-found
invariant-loop-found l = KeepsAll l.initial.self l.self (flat_map refusal_in (take l.found-index l.faults))
