-- The program, for its messages.
use Rattle.std.specs.Prelude.{ℕ, List, codes}
use Rattle.command_line.specs.Rows.{Program}

abbrev pub formatter : Program
formatter = record { name = codes "tffmt-all"; failure = 4 }
