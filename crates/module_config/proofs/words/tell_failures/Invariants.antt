use Rattle.std.proofs.Common.{◌≡◌, false, drop}
use Rattle.std.specs.Prelude.{flat_map}
use Rattle.command_line.proofs.WriterLemmas.{Goes}
use Rattle.module_config.specs.Words.{failure_lines}
use Rattle.module_config.proofs.words.tell_failures.Given as goal

-- the bytes taken of the rest from now on complete those of the whole
abbrev pub invariant-loop-found : goal.invariant-loop-found
invariant-loop-found g l =
    (g.S.ByteSink.failed l.sink ≡ false)
    × Goes (g.S.ByteSink.taken l.initial.sink) (g.S.ByteSink.taken l.sink) (flat_map (failure_lines l.start) (drop l.found-index l.all)) (flat_map (failure_lines l.start) l.all)
