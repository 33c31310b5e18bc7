use Rattle.std.proofs.Common.{◌≡◌, false, drop}
use Rattle.std.specs.Prelude.{flat_map}
use Rattle.command_line.proofs.WriterLemmas.{Goes}
use Rattle.module_config.specs.Words.{bad_line}
use Rattle.module_config.proofs.words.tell_lines.Given as goal

-- the bytes taken of the rest from now on complete those of the whole
abbrev pub invariant-loop-bad : goal.invariant-loop-bad
invariant-loop-bad g l =
    (g.S.ByteSink.failed l.sink ≡ false)
    × Goes (g.S.ByteSink.taken l.initial.sink) (g.S.ByteSink.taken l.sink) (flat_map (bad_line l.name) (drop l.bad-index l.all)) (flat_map (bad_line l.name) l.all)
