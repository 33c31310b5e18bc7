-- A print that is given as input again: words that ask for a print, words that ask for a check, and their rows. Our own
-- words, for the law `printed_twice`.
use Rattle.std.specs.Prelude.{◌≡◌, ℕ, true, false, List, [], Ok}
use Rattle.command_line.specs.Rows.{Row}
use Rattle.tffmt_command.specs.Line.{options_of}

-- the words are accepted, and ask for no help and no check
abbrev pub AskForPrint : List (List ℕ) → Type 0
AskForPrint words = options_of words ≡ Ok (record { check = false })

-- the words are accepted, and ask for a check
abbrev pub AskForCheck : List (List ℕ) → Type 0
AskForCheck words = options_of words ≡ Ok (record { check = true })

-- the bytes on standard output, nothing on standard error, status 0
abbrev pub row_of_print : List ℕ → Row
row_of_print out = record { out = out; err = []; status = 0 }

-- nothing on either, status 0
abbrev pub row_of_check : Row
row_of_check = record { out = []; err = []; status = 0 }
