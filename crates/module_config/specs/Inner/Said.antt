-- The options of a line, as the code has them.
use Rattle.std.specs.Prelude.{Result, Ok, Err}
use Rattle.module_config.specs.Lines.{Options}
use Rattle.module_config.specs.declared.line_fault.ConfigFault.{ConfigFault}
use Rattle.module_config.specs.declared.said.Said.{Said}
use Rattle.module_config.specs.Options.{options_of}

abbrev pub said_by : Result Said ConfigFault → Result Options ConfigFault
said_by (Ok s) = Ok (options_of s)
said_by (Err fault) = Err fault
