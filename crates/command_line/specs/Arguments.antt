-- The request of a line of words, as far as all programs read it alike: their options and flags, and the usage for a
-- fault that clap finds.
use Rattle.std.specs.Prelude.{◌∷◌, [], Result, Err, Some}
use Rattle.clap.specs.Words.{Kinds, Rule, Text, new_rule}
use Rattle.clap.specs.declared.builder.ArgAction.TheVariants.{Set, SetTrue}
use Rattle.clap.specs.declared.error.ErrorKind.{ErrorKind}
use Rattle.clap.specs.declared.error.ErrorKind.TheVariants as kind

-- `--NAME VALUE`
abbrev pub option_rule : Text → Rule
option_rule name = record (new_rule name) { long = Some name; action = Some Set }

-- `--NAME`
abbrev pub flag_rule : Text → Rule
flag_rule name = record (new_rule name) { long = Some name; action = Some SetTrue }

-- the usage for a fault: running out of memory, a request for help, or a wrong line
abbrev pub usage_by : {U : Type 0} → U → U → U → ErrorKind → U
usage_by memory help line kind.OutOfMemory = memory
usage_by memory help line kind.DisplayHelp = help
usage_by memory help line _ = line

-- the request in the matches of a line, if clap finds no fault in it, otherwise the usage for its first fault
abbrev pub unless_fault : {A U : Type 0} → (ErrorKind → U) → Kinds → Result A U → Result A U
unless_fault usage [] asked = asked
unless_fault usage (fault ∷ _) asked = Err (usage fault)
