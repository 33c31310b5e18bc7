-- One look at a file, step by step.
use Rattle.std.specs.Prelude.{◌≡◌, ◌≢◌, ◌≤◌, ◌<◌, ◌⊎◌, ℕ, Bool, List, Option, None, Result, Ok, Err, length}
use Rattle.hcl_source.specs.Load.{max_source, IsText, IsLoadFault, print_too_large}
use Rattle.hcl_source.specs.declared.fault.LoadError.{LoadError}
use Rattle.hcl_source.specs.declared.fault.LoadError.TheVariants as error
use Rattle.hcl_tokens.specs.Scanned.{Scanned}
use Rattle.hcl_tokens.specs.declared.token.ScanError.{ScanError}
use Rattle.hcl_tokens.specs.declared.token.ScanError.TheVariants as scan_error
use Rattle.hcl_layout.specs.Print.{print}
use Rattle.tree_format.specs.Refusals.{shown_line}
use Rattle.tree_format.specs.Reports.{snippet_text}
use Rattle.tree_format.specs.Looks.{Left, Notes, shown_diff}
use Rattle.file_tree.specs.Asked.{Asked, with_asked}
use Rattle.file_tree.specs.Files.{Faults, Files, Name}
use Rattle.hcl_source.specs.Devices.{Tells}
use Rattle.tree_format.specs.declared.mode.Mode.{Mode}
use Rattle.tree_format.specs.declared.mode.Mode.TheVariants.{Write, Diff}
use Rattle.tree_format.specs.declared.outcome.Outcome.{Outcome}
use Rattle.tree_format.specs.declared.outcome.Outcome.TheVariants as outcome
use Rattle.file_tree.specs.declared.fault.TreeFault.{TreeFault}
use Rattle.file_tree.specs.declared.fault.TreeFault.TheVariants.{ReadFailed, OutOfMemory}
use Rattle.file_tree.specs.declared.tree.Replaced.{Replaced}

-- a loaded text, or the outcome of a look whose load failed
abbrev pub outcome_by : Result (List ℕ) LoadError → Result (List ℕ) Outcome
outcome_by (Ok text) = Ok text
outcome_by (Err (error.Fault fault)) = Err (outcome.Refused fault None)
outcome_by (Err error.ReadFailed) = Err (outcome.Failed ReadFailed)
outcome_by (Err error.OutOfMemory) = Err (outcome.Failed OutOfMemory)

-- the outcome of a look whose scan failed
abbrev pub outcome_of_scan : ScanError → Outcome
outcome_of_scan (scan_error.Fault fault) = outcome.Refused fault None
outcome_of_scan scan_error.OutOfMemory = outcome.Failed OutOfMemory

-- the result of loading a file whose bytes the device tells
abbrev pub LoadsFile : Option (List ℕ) → Result (List ℕ) Outcome → Type 0
LoadsFile told (Ok text) = Tells told text × IsText text
LoadsFile told (Err (outcome.Refused fault snippet)) = (bytes : List ℕ) × Tells told bytes × IsLoadFault bytes fault × (snippet ≡ None)
LoadsFile told (Err (outcome.Failed fault)) = Unit {0}
LoadsFile told (Err outcome.Formatted) = ⊥
LoadsFile told (Err (outcome.Changed how)) = ⊥
LoadsFile told (Err (outcome.Differs text)) = ⊥

-- the outcome for accepted tokens of a file with this given name, and the files afterwards
abbrev pub Makes : Mode → Files → Files → Name → Name → Scanned → Outcome → Type 0
Makes mode old new given name s outcome.Formatted = (print s.tokens ≡ s.text) × (new ≡ old)
Makes mode old new given name s (outcome.Changed how) =
    (mode ≢ Diff) × (print s.tokens ≢ s.text) × (length (print s.tokens) ≤ max_source) × Left mode old new name (print s.tokens)
Makes mode old new given name s (outcome.Differs text) =
    (mode ≡ Diff) × (print s.tokens ≢ s.text) × (length (print s.tokens) ≤ max_source) × (new ≡ old) × (text.items ≡ shown_diff given s.text (print s.tokens))
Makes mode old new given name s (outcome.Refused fault snippet) =
    (max_source < length (print s.tokens)) × (fault ≡ print_too_large) × (new ≡ old) × (snippet ≡ None)
Makes mode old new given name s (outcome.Failed fault) = new ≡ old

-- the outcome of a text, to which the line of its fault is added if it is to be shown, or memory ran out for the line
abbrev pub Completes : Bool → List ℕ → Outcome → Outcome → Type 0
Completes shows text (outcome.Refused fault was) (outcome.Refused same snippet) = (same ≡ fault) × (snippet_text snippet ≡ shown_line shows text fault)
Completes shows text (outcome.Refused fault was) (outcome.Failed why) = why ≡ OutOfMemory
Completes shows text (outcome.Refused fault was) outcome.Formatted = ⊥
Completes shows text (outcome.Refused fault was) (outcome.Changed how) = ⊥
Completes shows text (outcome.Refused fault was) (outcome.Differs shown) = ⊥
Completes shows text before after = after ≡ before

-- the difference is shown for a file with this given name, or memory ran out
abbrev pub IsShown : Name → Scanned → Outcome → Type 0
IsShown given s (outcome.Differs text) = text.items ≡ shown_diff given s.text (print s.tokens)
IsShown given s (outcome.Failed fault) = fault ≡ OutOfMemory
IsShown given s outcome.Formatted = ⊥
IsShown given s (outcome.Changed how) = ⊥
IsShown given s (outcome.Refused fault snippet) = ⊥

-- a load that succeeds had no failed call; the fault of one that fails is real
abbrev pub LoadNotes : {X : Type 0} → Faults → Faults → Result X Outcome → Type 0
LoadNotes before after (Ok x) = after ≡ before
LoadNotes before after (Err answer) = Notes before after answer

-- the replacement that is asked for, with its answer, for accepted tokens of a file with this given name
abbrev pub PrintAsked : Mode → Name → Scanned → Asked → Asked → Result Replaced TreeFault → Type 0
PrintAsked (Write writing) given s before after answer =
    (print s.tokens ≢ s.text) × (length (print s.tokens) ≤ max_source)
    × (after ≡ with_asked before (record { name = given; old = s.text; new = print s.tokens; writing = writing; answer = answer }))
PrintAsked mode given s before after answer = after ≡ before

abbrev pub MakesAsking : Mode → Name → Scanned → Asked → Asked → Outcome → Type 0
MakesAsking mode given s before after outcome.Formatted = after ≡ before
MakesAsking mode given s before after (outcome.Changed how) = PrintAsked mode given s before after (Ok how)
MakesAsking mode given s before after (outcome.Differs text) = after ≡ before
MakesAsking mode given s before after (outcome.Refused fault snippet) = after ≡ before
MakesAsking mode given s before after (outcome.Failed fault) = (after ≡ before) ⊎ PrintAsked mode given s before after (Err fault)
