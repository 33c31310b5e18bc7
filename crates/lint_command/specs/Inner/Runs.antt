-- The end of a run, by the steps of the code.
use Rattle.std.specs.Prelude.{◌≡◌, ◌⊎◌, ℕ, Bool, true, false, List, [], Option, Result, Ok, codes}
use Rattle.clap.specs.Words.{Text}
use Rattle.command_line.specs.Rows.{End, Row, Shows, fails_with, out_of_memory}
use Rattle.file_tree.specs.Files.{Faults, Files, Name, Tells}
use Rattle.file_tree.specs.declared.walk.Found.{Found}
use Rattle.module_find.specs.declared.module.Module.{Module}
use Rattle.module_find.specs.Refusals.{tree_linter}
use Rattle.tree_lint.specs.declared.written.Terminals.{Terminals}
use Rattle.tree_words.specs.Paths.{paths_of_input, paths_of_line}
use Rattle.lint_command.specs.Ends.{EndsFor, Lints, LintsModules, usage_row}
use Rattle.lint_command.specs.Line.{Request, Job, request_of_texts}
use Rattle.lint_command.specs.declared.usage.Usage.{Usage}

abbrev pub read_failed : Row
read_failed = fails_with tree_linter (codes "read failed")

-- only this row is shown
abbrev pub SaysOnly : Row → End → Type 0
SaysOnly row end = Shows tree_linter row end

-- memory ran out before a module was linted, or these modules were linted
abbrev pub LintsCollected : Terminals → Job → List Module → List Found → Files → Faults → Faults → End → Type 0
LintsCollected terminals job modules faults files was is end =
    SaysOnly (out_of_memory tree_linter) end
    ⊎ LintsModules terminals job modules faults files was is end

-- memory ran out before a module was linted, or the modules of these paths were linted
abbrev pub LintsOr : Terminals → Job → List Name → Files → Faults → Faults → End → Type 0
LintsOr terminals job paths files was is end =
    SaysOnly (out_of_memory tree_linter) end ⊎ Lints terminals job paths files was is end

-- memory ran out before a module was linted, or the modules were linted that the names of the line stand for
abbrev pub LintsNamed : Terminals → Job → List Name → Files → Faults → Faults → End → Type 0
LintsNamed terminals job names files was is end =
    LintsOr terminals job (paths_of_line names) files was is end

-- memory ran out before a module was linted, or a read of standard input failed, or the modules were linted that its
-- names stand for
abbrev pub ReadsAndLints : Terminals → Job → Bool → Option (List ℕ) → Files → Faults → Faults → End → Type 0
ReadsAndLints terminals job failed input files was is end =
    SaysOnly (out_of_memory tree_linter) end
    ⊎ (((failed ≡ true) × (is ≡ was) × SaysOnly read_failed end)
    ⊎ ((failed ≡ false) × (bytes : List ℕ) × Tells input bytes
    × Lints terminals job (paths_of_input bytes) files was is end))

-- the row of the texts is shown, or that for running out of memory
abbrev pub ShowsUsage : List Text → Usage → End → Type 0
ShowsUsage texts usage end =
    SaysOnly (out_of_memory tree_linter) end ⊎ SaysOnly (usage_row texts usage) end

abbrev pub EndsByRequest : Terminals → Request → Bool → Option (List ℕ) → Files → Faults → Faults → End → Type 0
EndsByRequest terminals asking failed input files was is end =
    EndsFor terminals [] (Ok asking) failed input files was is end

-- the end of a run with these texts, and these other words, which are names
abbrev pub IsEndOf : Terminals → List Text → List Name → Bool → Option (List ℕ) → Files → Faults → Faults → End → Type 0
IsEndOf terminals texts others failed input files was is end =
    ((is ≡ was) × SaysOnly (out_of_memory tree_linter) end)
    ⊎ EndsFor terminals texts (request_of_texts texts others) failed input files was is end
