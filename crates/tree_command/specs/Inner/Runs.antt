-- The end of a run, by the steps of the code.
use Rattle.std.specs.Prelude.{◌≡◌, ◌⊎◌, ℕ, Bool, true, false, List, [], Option, Result, Ok, codes}
use Rattle.clap.specs.Words.{Text}
use Rattle.command_line.specs.Rows.{End, Row, Shows, fails_with, out_of_memory}
use Rattle.file_tree.specs.Files.{Name, Tells}
use Rattle.tree_format.specs.States.{State}
use Rattle.tree_format.specs.declared.mode.Mode.{Mode}
use Rattle.tree_words.specs.Paths.{paths_of_input, paths_of_line}
use Rattle.tree_command.specs.Ends.{EndsFor, Formats, SaysOnly, usage_row}
use Rattle.tree_command.specs.Formatter.{formatter}
use Rattle.tree_command.specs.Line.{Request, Selection, request_of_texts}
use Rattle.tree_command.specs.declared.usage.Usage.{Usage}

abbrev pub read_failed : Row
read_failed = fails_with formatter (codes "read failed")

-- memory ran out before a file was looked at, or the files were formatted
abbrev pub FormatsOr : Bool → Bool → Mode → Selection → List Name → State → State → End → Type 0
FormatsOr shows quiet mode selection paths before after end =
    SaysOnly (out_of_memory formatter) before after end
    ⊎ Formats shows quiet mode selection paths before after end

-- memory ran out before a file was looked at, or the files that the names of the line stand for were formatted
abbrev pub FormatsNamed : Bool → Bool → Mode → Selection → List Name → State → State → End → Type 0
FormatsNamed shows quiet mode selection names before after end =
    FormatsOr shows quiet mode selection (paths_of_line names) before after end

-- memory ran out before a file was looked at, or a read of standard input failed, or the files were formatted that its
-- names stand for
abbrev pub ReadsAndFormats : Bool → Bool → Mode → Selection → Bool → Option (List ℕ) → State → State → End → Type 0
ReadsAndFormats shows quiet mode selection failed input before after end =
    SaysOnly (out_of_memory formatter) before after end
    ⊎ (((failed ≡ true) × SaysOnly read_failed before after end)
    ⊎ ((failed ≡ false) × (bytes : List ℕ) × Tells input bytes
    × Formats shows quiet mode selection (paths_of_input bytes) before after end))

-- the row of the texts is shown, or that for running out of memory
abbrev pub ShowsUsage : List Text → Usage → End → Type 0
ShowsUsage texts usage end =
    Shows formatter (out_of_memory formatter) end ⊎ Shows formatter (usage_row texts usage) end

abbrev pub EndsByRequest : Bool → Request → Bool → Option (List ℕ) → State → State → End → Type 0
EndsByRequest shows asking failed input before after end = EndsFor shows [] (Ok asking) failed input before after end

-- the end of a run with these texts, and these other words, which are names
abbrev pub IsEndOf : Bool → List Text → List Name → Bool → Option (List ℕ) → State → State → End → Type 0
IsEndOf shows texts others failed input before after end =
    SaysOnly (out_of_memory formatter) before after end
    ⊎ EndsFor shows texts (request_of_texts texts others) failed input before after end
