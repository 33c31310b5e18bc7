-- The messages about a run on standard error, and the statuses, by its ending: our own choice.
use Rattle.std.specs.Prelude.{ℕ, List, [], ◌++◌, codes}
use Rattle.command_line.specs.Rows.{line}
use Rattle.tfls_command.specs.declared.ending.Ending.{Ending}
use Rattle.tfls_command.specs.declared.ending.Ending.TheVariants as ending

abbrev pub error_line : List ℕ → List ℕ
error_line text = line (codes "tfls: error: " ++ text)

abbrev pub ending_message : Ending → List ℕ
ending_message (ending.Exit status) = []
ending_message ending.InputEnded = error_line (codes "input ended without exit")
ending_message ending.Malformed = error_line (codes "malformed message")
ending_message ending.ReadFailed = error_line (codes "read failed")
ending_message ending.WriteFailed = error_line (codes "write failed")
ending_message ending.OutOfMemory = error_line (codes "out of memory")

abbrev pub ending_status : Ending → ℕ
ending_status (ending.Exit status) = status
ending_status ending.InputEnded = 1
ending_status ending.Malformed = 1
ending_status ending.ReadFailed = 1
ending_status ending.WriteFailed = 1
ending_status ending.OutOfMemory = 1
