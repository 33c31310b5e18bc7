-- THE ANSWER of `tfls` to a line of words and an input. Its texts and statuses are our own choice.
use Rattle.std.specs.Prelude.{◌≡◌, ◌⊎◌, ℕ, Bool, List, Option, Result, Ok, Err, codes}
use Rattle.file_tree.specs.Files.{Files}
use Rattle.command_line.specs.Rows.{End, Program, Shows, Took, line, message_row, out_of_memory, output_row}
use Rattle.tfls_command.specs.Endings.{ending_message, ending_status}
use Rattle.tfls_command.specs.Line.{request_of}
use Rattle.tfls_command.specs.Runs.{HasServed}
use Rattle.tfls_command.specs.declared.ending.Ending.{Ending}
use Rattle.tfls_command.specs.declared.options.Usage.{Usage}
use Rattle.tfls_command.specs.declared.options.Usage.TheVariants as usage

abbrev pub server : Program
server = record { name = codes "tfls"; failure = 1 }

abbrev pub usage_line : List ℕ
usage_line = line (codes "usage: tfls [--stdio] [--help]")

-- a run of the server with these files on the disk, and how it ended
pub record IsRun (disk : Files) (old left : Option (List ℕ)) (read_failed : Bool) (end : End)
    : Type 0 where
  pub ending : Ending
  pub served : HasServed disk old left read_failed end.out ending
  pub message : Took end.err (ending_message ending)
  pub status : end.status ≡ ending_status ending

abbrev pub IsAnswerBy : Files → Result (Unit {0}) Usage → Option (List ℕ) → Option (List ℕ) → Bool
    → End → Type 0
IsAnswerBy disk (Ok asked) old left read_failed end = IsRun disk old left read_failed end
IsAnswerBy disk (Err usage.Help) old left read_failed end =
    Shows server (output_row usage_line 0) end
IsAnswerBy disk (Err usage.BadLine) old left read_failed end =
    Shows server (message_row usage_line 2) end
IsAnswerBy disk (Err usage.OutOfMemory) old left read_failed end = ⊥

-- the answer to these words, or memory ran out while they were read
abbrev pub IsAnswer : Files → List (List ℕ) → Option (List ℕ) → Option (List ℕ) → Bool → End
    → Type 0
IsAnswer disk words old left read_failed end =
    Shows server (out_of_memory server) end
    ⊎ IsAnswerBy disk (request_of words) old left read_failed end
