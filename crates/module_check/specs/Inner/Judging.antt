-- Files that are judged in turn, by the steps of the code.
use Rattle.std.specs.Prelude.{◌≡◌, ◌≤◌, ◌<◌, ◌+◌, ℕ, List, Option, Result, Ok, Err, length}
use Rattle.file_tree.specs.Files.{Name}
use Rattle.hcl_grammar.specs.Verdict.{IsTextVerdict, verdict}
use Rattle.hcl_source.specs.Devices.{Tells}
use Rattle.hcl_source.specs.Load.{IsLoadFault, IsText}
use Rattle.hcl_source.specs.declared.fault.LoadError.{LoadError}
use Rattle.hcl_source.specs.declared.fault.LoadError.TheVariants as error
use Rattle.hcl_tokens.specs.Scanned.{Scanned}
use Rattle.tf_rules.specs.Issues.{File}
use Rattle.tf_rules.specs.Stored.{Stored, stored_of, with_file}
use Rattle.tfrules_command.specs.Files.{max_module}
use Rattle.module_check.specs.Checks.{AcceptedIn, AreStates}
use Rattle.module_check.specs.declared.judge.Judgement.{Judgement}
use Rattle.module_check.specs.declared.judge.Judgement.TheVariants.{Accepted, Refused, TooMuch}
use Rattle.module_check.specs.declared.state.FileState.{FileState}
use Rattle.module_check.specs.declared.state.FileState.TheVariants as state

-- the verdict on scanned tokens, whose facts are kept if they are a file
abbrev pub JudgesTokens : Scanned → ℕ → Stored → Stored → Judgement → Type 0
JudgesTokens scanned number old new Accepted =
    (source : Scanned) × (Ok source ≡ verdict scanned)
    × (new ≡ with_file old (record { number = number; source = source }))
JudgesTokens scanned number old new (Refused fault) = (Err fault ≡ verdict scanned) × (new ≡ old)
JudgesTokens scanned number old new TooMuch = ⊥

-- the facts of an accepted text are kept
abbrev pub AddsText : List ℕ → ℕ → Stored → Stored → Type 0
AddsText text number old new =
    (scanned : Scanned) × IsTextVerdict text (Ok scanned)
    × (new ≡ with_file old (record { number = number; source = scanned }))

-- the verdict on a text after accepted files of this many bytes
abbrev pub Judges : List ℕ → ℕ → ℕ → Stored → Stored → Judgement → Type 0
Judges text size number old new Accepted =
    (size + length text ≤ max_module) × AddsText text number old new
Judges text size number old new (Refused fault) =
    (size + length text ≤ max_module) × IsTextVerdict text (Err fault) × (new ≡ old)
Judges text size number old new TooMuch = (max_module < size + length text) × (new ≡ old)

-- the bytes that the device tells are those that were loaded, or have this fault
abbrev pub TellsLoaded : Option (List ℕ) → Result (List ℕ) LoadError → Type 0
TellsLoaded told (Ok text) = Tells told text × IsText text
TellsLoaded told (Err (error.Fault fault)) =
    (bytes : List ℕ) × Tells told bytes × IsLoadFault bytes fault
TellsLoaded told (Err _) = Unit {0}

-- only the facts of a good file are kept
abbrev pub AddsState : ℕ → FileState → Stored → Stored → Type 0
AddsState number (state.Good source) old new = AddsText source number old new
AddsState number _ old new = new ≡ old

-- the files of these names were judged, and the facts of the accepted ones kept
pub record HaveStates (told : Name → Option (List ℕ)) (names : List Name) (states : List FileState)
    (kept : Stored) : Type 0 where
  pub are : AreStates told 0 names states
  pub files : List File
  pub accepted : AcceptedIn 0 states files
  pub kept_is : kept ≡ stored_of files
