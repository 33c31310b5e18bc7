use Rattle.std.proofs.Common.{◌≡◌, false, drop}
use Rattle.std.specs.Prelude.{flat_map}
use Rattle.command_line.proofs.WriterLemmas.{Goes}
use Rattle.module_find.specs.Faults.{fault_lines}
use Rattle.module_find.proofs.refusal.tell_faults.Given as goal

-- if the writer takes the remaining lines, it has taken all of them
abbrev pub invariant-loop-found : goal.invariant-loop-found
invariant-loop-found g l =
    (g.S.ByteSink.failed l.sink ≡ false)
    × Goes (g.S.ByteSink.taken l.initial.sink) (g.S.ByteSink.taken l.sink) (flat_map fault_lines (drop l.found-index l.faults)) (flat_map fault_lines l.faults)
