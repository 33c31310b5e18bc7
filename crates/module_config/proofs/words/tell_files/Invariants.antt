use Rattle.std.proofs.Common.{◌≡◌, false, drop}
use Rattle.std.specs.Prelude.{flat_map}
use Rattle.command_line.proofs.WriterLemmas.{Goes}
use Rattle.module_config.specs.Words.{config_lines}
use Rattle.module_config.proofs.words.tell_files.Given as goal

-- the bytes taken of the rest from now on complete those of the whole
abbrev pub invariant-loop-file : goal.invariant-loop-file
invariant-loop-file g l =
    (g.S.ByteSink.failed l.sink ≡ false)
    × Goes (g.S.ByteSink.taken l.initial.sink) (g.S.ByteSink.taken l.sink) (flat_map (config_lines l.start) (drop l.file-index l.files)) (flat_map (config_lines l.start) l.files)
