use Rattle.std.proofs.Common.{◌≡◌, length, take}
use Rattle.std.specs.Prelude.{◌==◌, [], fold}
use Rattle.std.specs.List.{slice_split}
use Rattle.module_config.specs.Lines.{no_options}
use Rattle.module_config.specs.Reads.{read_line}
use Rattle.module_config.specs.Readings.{read_of}
use Rattle.module_config.proofs.config_lines.config_in.Given as goal

abbrev pub invariant-loop-line : goal.invariant-loop-line
invariant-loop-line l =
    read_of l.config ≡ fold read_line (record { said = no_options; lines = 0; faults = [] }) (take (length l.yielded) (slice_split (λ b. b == 10) l.text))
