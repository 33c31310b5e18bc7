-- The request of a `tffmt` line, as clap reads a simple command: its own definitions of the matches and the faults of a
-- line decide.
use Rattle.std.specs.Prelude.{List, Result, Ok, codes}
use Rattle.command_line.specs.Arguments.{flag_rule, unless_fault, usage_by}
use Rattle.command_line.specs.Flags.{is_set}
use Rattle.clap.specs.Words.{App, Row, Text, fault_of, matches_of, new_app, with_rule}
use Rattle.tffmt_command.specs.declared.options.FmtOptions.{FmtOptions}
use Rattle.tffmt_command.specs.declared.options.Usage.{Usage}
use Rattle.tffmt_command.specs.declared.options.Usage.TheVariants.{Help, BadLine, OutOfMemory}

-- the command `tffmt [--check] [--help]`
abbrev pub tffmt : App
tffmt = with_rule (new_app (codes "tffmt")) (flag_rule (codes "check"))

-- the options of a line in which clap finds no fault
abbrev pub options_in : List Row → Result FmtOptions Usage
options_in rows = Ok (record { check = is_set (codes "check") rows })

-- the answer to a line, unless memory runs out
abbrev pub options_of : List Text → Result FmtOptions Usage
options_of words =
    unless_fault (usage_by OutOfMemory Help BadLine) (fault_of tffmt words)
    (options_in (matches_of tffmt words))
