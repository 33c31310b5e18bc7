-- The results of runs over trees in memory.
use Rattle.std.specs.Prelude.{◌≡◌, ◌≢◌, ◌⊎◌, ◌||◌, true, false, List, [], ◌∷◌, Option, Some, None}
use Rattle.std.specs.List.{list_any}
use Rattle.command_line.specs.Rows.{End}
use Rattle.file_tree.specs.Files.{Faults}
use Rattle.file_tree.specs.declared.fault.TreeFault.{TreeFault}
use Rattle.file_tree.specs.declared.fault.TreeFault.TheVariants.{OutOfMemory}
use Rattle.file_tree.specs.declared.tree.Writing.{Writing}
use Rattle.file_tree.specs.declared.walk.Found.{Found}
use Rattle.tree_format.specs.Looks.{failure_of}
use Rattle.tree_format.specs.Runs.{IsRun, is_failed}
use Rattle.tree_format.specs.States.{State}
use Rattle.tree_format.specs.declared.mode.Mode.{Mode}
use Rattle.tree_format.specs.declared.mode.Mode.TheVariants.{Write}
use Rattle.tree_format.specs.declared.outcome.Outcome.{Outcome}

-- a fault in a list, if there is one
abbrev pub faults_of : Option TreeFault → List TreeFault
faults_of None = []
faults_of (Some fault) = fault ∷ []

-- the tree told the fault of this answer as the one fault of its calls, or none if memory ran out
abbrev pub NotesOne : Faults → Outcome → Type 0
NotesOne told answer =
    (told ≡ Some (faults_of (failure_of answer)))
    ⊎ ((failure_of answer ≡ Some OutOfMemory) × (told ≡ Some []))

-- if this run has status 4 and no writer failed, one of its looks failed
abbrev pub FailsByALook : Mode → List Found → State → State → End → Type 0
FailsByALook mode found before after end =
    end.status ≡ 4 → (end.out.failed || end.err.failed) ≡ false
    → (run : IsRun false mode found (λ answers. []) before after end)
    × (list_any is_failed run.answers ≡ true)

-- there is a run over these files in which nothing fails
abbrev pub HasGoodRun : List Found → State → Type 0
HasGoodRun found before =
    (writing : Writing) → (after : State) × (end : End)
    × (run : IsRun false (Write writing) found (λ answers. []) before after end) × (end.status ≢ 4)
