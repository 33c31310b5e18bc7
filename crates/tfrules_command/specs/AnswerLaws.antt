-- The answer by the words of a line: for the law that words and the files that they name have exactly one.
use Rattle.std.specs.Prelude.{◌≡◌, ℕ, List, Result, Ok, Err}
use Rattle.command_line.specs.Rows.{Row}
use Rattle.tfrules_command.specs.Answer.{IsAnswerBy, names_of}
use Rattle.tfrules_command.specs.Files.{NamedFile}
use Rattle.tfrules_command.specs.Line.{Request, options_of}
use Rattle.tfrules_command.specs.declared.usage.Usage.{Usage}

abbrev pub named_file : List ℕ → List ℕ → NamedFile
named_file name bytes = record { name = name; bytes = bytes }

-- THE ANSWER to a line of words and the files that it names, each once, in order
abbrev pub IsAnswer : List (List ℕ) → List NamedFile → Row → Type 0
IsAnswer words = IsAnswerBy (options_of words)

-- the files are those that the line names, if it asks for any
abbrev pub AreNamed : Result Request Usage → List NamedFile → Type 0
AreNamed (Ok asking) files = names_of files ≡ asking.files
AreNamed (Err usage) files = Unit {0}
