-- The progress of a run with the files of a module, and the reason for its stop.
use Rattle.std.specs.Prelude.{◌≡◌, ◌+◌, ◌++◌, ◌∷◌, ℕ, Bool, true, false, List, [], Option, Result, Ok, Err, codes}
use Rattle.command_line.specs.Rows.{Row, error_line, out_of_memory}
use Rattle.hcl_source.specs.Load.{IsLoadFault, IsText}
use Rattle.hcl_tokens.specs.declared.token.ScanError.{ScanError}
use Rattle.hcl_tokens.specs.declared.token.ScanError.TheVariants as scan_error
use Rattle.hcl_source.specs.declared.fault.LoadError.{LoadError}
use Rattle.hcl_source.specs.declared.fault.LoadError.TheVariants as error
use Rattle.tf_rules.specs.Stored.{Stored}
use Rattle.tfrules_command.specs.Answer.{file_error, linter, refusal_row, too_large, usage_line}
use Rattle.tfrules_command.specs.Files.{IsFault, IsTooMuch}
use Rattle.tfrules_command.specs.Keeping.{Added, Reached}
use Rattle.hcl_source.specs.Devices.{Tells}
use Rattle.tfrules_command.specs.declared.stop.Stop.{Stop}
use Rattle.tfrules_command.specs.declared.stop.Stop.TheVariants as stop
use Rattle.tfrules_command.specs.declared.stop.Stopped.{Stopped}
use Rattle.tfrules_command.specs.declared.usage.Usage.{Usage}
use Rattle.tfrules_command.specs.declared.usage.Usage.TheVariants as usage

-- no open and no read failed
abbrev pub AreFine : Bool → Bool → Type 0
AreFine open_failed read_failed = (open_failed ≡ false) × (read_failed ≡ false)

-- the result of loading a text, for a run
abbrev pub stop_by : Result (List ℕ) LoadError → Result (List ℕ) Stop
stop_by (Ok text) = Ok text
stop_by (Err (error.Fault fault)) = Err (stop.Refused fault)
stop_by (Err error.ReadFailed) = Err stop.NotRead
stop_by (Err error.OutOfMemory) = Err stop.OutOfMemory

-- the answer of reading a file whose bytes the device tells
abbrev pub ReadsFile : Option (List ℕ) → Bool → Bool → Result (List ℕ) Stop → Type 0
ReadsFile told o r (Ok text) = AreFine o r × Tells told text × IsText text
ReadsFile told o r (Err (stop.Refused fault)) = AreFine o r × ((bytes : List ℕ) × Tells told bytes × IsLoadFault bytes fault)
ReadsFile told o r (Err stop.TooLarge) = ⊥
ReadsFile told o r (Err stop.NotOpened) = o ≡ true
ReadsFile told o r (Err stop.NotRead) = (o ≡ false) × (r ≡ true)
ReadsFile told o r (Err stop.OutOfMemory) = AreFine o r

-- the fault of a scan, for a run
abbrev pub stop_of_scan : ScanError → Stop
stop_of_scan (scan_error.Fault fault) = stop.Refused fault
stop_of_scan scan_error.OutOfMemory = stop.OutOfMemory

-- why a run stops at a file
abbrev pub StopsBy : Option (List ℕ) → ℕ → Bool → Bool → Stop → Type 0
StopsBy told size o r (stop.Refused fault) = AreFine o r × ((bytes : List ℕ) × Tells told bytes × IsFault size bytes fault)
StopsBy told size o r stop.TooLarge = AreFine o r × ((bytes : List ℕ) × Tells told bytes × IsTooMuch size bytes)
StopsBy told size o r stop.NotOpened = o ≡ true
StopsBy told size o r stop.NotRead = (o ≡ false) × (r ≡ true)
StopsBy told size o r stop.OutOfMemory = AreFine o r

abbrev pub Adds : Option (List ℕ) → ℕ → ℕ → Bool → Bool → Stored → Stored → Result ℕ Stop → Type 0
Adds told size number o r old new (Ok more) = AreFine o r × Added told size number old new more
Adds told size number o r old new (Err why) = StopsBy told size o r why

-- the run reached the file of this name, and stopped
pub record StopsAt (told : List ℕ → Option (List ℕ)) (names : List (List ℕ)) (o r : Bool) (name : List ℕ) (why : Stop) : Type 0 where
  pub front : List (List ℕ)
  pub after : List (List ℕ)
  pub split : names ≡ front ++ name ∷ after
  pub size : ℕ
  pub kept : Stored
  pub reached : Reached told front size kept
  pub by : StopsBy (told name) size o r why

abbrev pub Gathers : {U : Type 0} → (List ℕ → Option (List ℕ)) → List (List ℕ) → Bool → Bool → Stored → Result U Stopped → Type 0
Gathers told names o r kept (Ok u) = AreFine o r × ((size : ℕ) × Reached told names size kept)
Gathers told names o r kept (Err stopped) = StopsAt told names o r stopped.name.now stopped.why

-- the message at a stop
abbrev pub stop_row : List ℕ → Stop → Row
stop_row name (stop.Refused fault) = refusal_row name fault
stop_row name stop.TooLarge = too_large name
stop_row name stop.NotOpened = file_error name (codes "cannot be opened")
stop_row name stop.NotRead = file_error name (codes "read failed")
stop_row name stop.OutOfMemory = out_of_memory linter

-- ---- lines without options

abbrev pub usage_text : Usage → List ℕ
usage_text usage.Help = usage_line
usage_text usage.BadLine = usage_line
usage_text usage.UnknownRule = error_line linter (codes "unknown rule")
usage_text usage.BadNaming = error_line linter (codes "unknown naming")
usage_text usage.BadSeverity = error_line linter (codes "unknown severity")
usage_text usage.TooManyFiles = error_line linter (codes "more than 256 files")
usage_text usage.OutOfMemory = error_line linter (codes "out of memory")

abbrev pub usage_row : Usage → Row
usage_row usage.Help = record { out = usage_line; err = []; status = 0 }
usage_row u = record { out = []; err = usage_text u; status = 1 }
