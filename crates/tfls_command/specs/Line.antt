-- The request of a `tfls` line, as clap reads a simple command: its own definitions of the faults of a line decide.
use Rattle.std.specs.Prelude.{List, Result, Ok, codes}
use Rattle.command_line.specs.Arguments.{flag_rule, unless_fault, usage_by}
use Rattle.clap.specs.Words.{App, Text, fault_of, new_app, with_rule}
use Rattle.tfls_command.specs.declared.options.Usage.{Usage}
use Rattle.tfls_command.specs.declared.options.Usage.TheVariants.{Help, BadLine, OutOfMemory}

-- The command `tfls [--stdio] [--help]`. Some editors give the flag to each server; it changes nothing.
abbrev pub tfls : App
tfls = with_rule (new_app (codes "tfls")) (flag_rule (codes "stdio"))

-- the answer to a line, unless memory runs out
abbrev pub request_of : List Text → Result (Unit {0}) Usage
request_of words = unless_fault (usage_by OutOfMemory Help BadLine) (fault_of tfls words) (Ok tt)
