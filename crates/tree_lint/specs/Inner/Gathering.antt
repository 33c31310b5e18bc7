-- The progress of a run over the files of a module.
use Rattle.std.specs.Prelude.{◌≡◌, ◌≤◌, ◌+◌, ◌++◌, ◌∷◌, [], ℕ, Bool, false, List, Option, Result, Ok, Err, if◌then◌else◌, length, map}
use Rattle.hcl_grammar.specs.Verdict.{IsTextVerdict}
use Rattle.tree_lint.specs.CommentFaults.{fault_view}
use Rattle.file_tree.specs.Files.{Faults, Name, Tells}
use Rattle.file_tree.specs.declared.fault.TreeFault.TheVariants.{OutOfMemory, ReadFailed}
use Rattle.hcl_source.specs.Load.{IsLoadFault, IsText}
use Rattle.hcl_source.specs.declared.fault.LoadError.{LoadError}
use Rattle.hcl_source.specs.declared.fault.LoadError.TheVariants as error
use Rattle.hcl_tokens.specs.Scanned.{Scanned}
use Rattle.source_snippet.specs.Snippets.{snippet_if}
use Rattle.tf_rules.specs.Issues.{File}
use Rattle.tf_rules.specs.Stored.{no_facts, with_file}
use Rattle.tfrules_command.specs.Files.{max_module, numbered_files}
use Rattle.tfrules_command.specs.Keeping.{Added, KeepsTokens, Reached, ScansFile}
use Rattle.tfrules_command.specs.declared.gather.ScannedFile.{ScannedFile}
use Rattle.tfrules_command.specs.declared.stop.Stop.{Stop as FileStop}
use Rattle.tfrules_command.specs.declared.stop.Stop.TheVariants as file
use Rattle.tree_lint.specs.Verdicts.{StopsAt, StopsBy, comments_looked_for, shows_lines, texts_shown}
use Rattle.tree_lint.specs.declared.gather.Gathered.{Gathered}
use Rattle.tree_lint.specs.declared.stop.Stop.{Stop}
use Rattle.tree_lint.specs.declared.stop.Stop.TheVariants as stop
use Rattle.tree_lint.specs.declared.stop.Stopped.{Stopped}
use Rattle.tree_lint.specs.declared.written.Terminals.{Terminals}

-- the answer for a loaded text; the fault of bytes that are no text has no line
abbrev pub StopsLoad : Result (List ℕ) LoadError → Result (List ℕ) Stop → Type 0
StopsLoad (Ok text) r = r ≡ Ok text
StopsLoad (Err (error.Fault fault)) (Err (stop.Refused same line)) = (same ≡ fault) × (line.items ≡ [])
StopsLoad (Err (error.Fault fault)) _ = ⊥
StopsLoad (Err error.ReadFailed) r = r ≡ Err (stop.Failed ReadFailed)
StopsLoad (Err error.OutOfMemory) r = r ≡ Err (stop.Failed OutOfMemory)

-- why a file that was read isn't kept, with the line of its fault if that is shown; files that weren't opened or read
-- are no case here, so anything holds of them
abbrev pub StopsWith : Bool → List ℕ → FileStop → Stop → Type 0
StopsWith shows text (file.Refused fault) (stop.Refused same line) = (same ≡ fault) × (line.items ≡ snippet_if shows text fault.at)
StopsWith shows text (file.Refused fault) stop.TooLarge = ⊥
StopsWith shows text (file.Refused fault) (stop.Failed why) = why ≡ OutOfMemory
StopsWith shows text file.TooLarge s = s ≡ stop.TooLarge
StopsWith shows text file.OutOfMemory s = s ≡ stop.Failed OutOfMemory
StopsWith shows text file.NotOpened s = Unit {0}
StopsWith shows text file.NotRead s = Unit {0}

-- the answer of reading a file whose bytes the device tells
abbrev pub ReadsFile : Option (List ℕ) → Faults → Faults → Result (List ℕ) Stop → Type 0
ReadsFile told was is (Ok text) = (is ≡ was) × Tells told text × IsText text
ReadsFile told was is (Err (stop.Refused fault line)) = (is ≡ was) × ((bytes : List ℕ) × Tells told bytes × IsLoadFault bytes fault) × (line.items ≡ [])
ReadsFile told was is (Err stop.TooLarge) = ⊥
ReadsFile told was is (Err (stop.Failed fault)) = StopsBy false told 0 was is (stop.Failed fault)

-- nothing is kept yet
pub record IsEmpty (all : Gathered) : Type 0 where
  pub facts : all.facts ≡ no_facts
  pub comments : all.comments.items ≡ []
  pub texts : all.texts.items ≡ []

-- the comments of a file are added to others, if they are checked
pub record AddsComments (file : File) (old new : Gathered) : Type 0 where
  pub checks : new.checks ≡ old.checks
  pub comments : map fault_view new.comments.items ≡ map fault_view old.comments.items ++ comments_looked_for old.checks (file ∷ [])
  pub terminals : new.terminals ≡ old.terminals
  pub texts : new.texts ≡ old.texts

-- the answer of keeping scanned tokens
abbrev pub KeepsScanned : ScannedFile → ℕ → Gathered → Gathered → Result ℕ FileStop → Type 0
KeepsScanned file number old new (Ok more) = KeepsTokens file.tokens number file.all old.facts new.facts (Ok more) × AddsComments (record { number = number; source = file.tokens }) old new
KeepsScanned file number old new (Err why) = KeepsTokens file.tokens number file.all old.facts new.facts (Err why)

-- the answer of keeping a text after others, which have this many bytes
abbrev pub KeepsFile : List ℕ → ℕ → ℕ → Gathered → Gathered → Result ℕ FileStop → Type 0
KeepsFile text size number old new (Ok more) =
    (source : Scanned) × IsTextVerdict text (Ok source) × (more ≡ size + length text) × (more ≤ max_module) × (new.facts ≡ with_file old.facts (record { number = number; source = source }))
    × AddsComments (record { number = number; source = source }) old new
KeepsFile text size number old new (Err why) = ScansFile text size (Err why)

-- the text of one file, if texts are kept
abbrev pub texts_kept : Bool → List ℕ → List (List ℕ)
texts_kept shows text = if shows then text ∷ [] else []

-- the comments of a file are added to others, if they are checked, and so is its text, if texts are kept
pub record AddsFound (file : File) (text : List ℕ) (old new : Gathered) : Type 0 where
  pub checks : new.checks ≡ old.checks
  pub comments : map fault_view new.comments.items ≡ map fault_view old.comments.items ++ comments_looked_for old.checks (file ∷ [])
  pub terminals : new.terminals ≡ old.terminals
  pub texts : new.texts.items ≡ old.texts.items ++ texts_kept (shows_lines old.terminals) text

-- the answer of keeping a file that was read after others, which have this many bytes
abbrev pub AddsRead : List ℕ → ℕ → ℕ → Gathered → Gathered → Result ℕ Stop → Type 0
AddsRead text size number old new (Ok more) =
    (source : Scanned) × IsTextVerdict text (Ok source) × (more ≡ size + length text) × (more ≤ max_module) × (new.facts ≡ with_file old.facts (record { number = number; source = source }))
    × AddsFound (record { number = number; source = source }) text old new
AddsRead text size number old new (Err why) = (by : FileStop) × ScansFile text size (Err by) × StopsWith old.terminals.err text by why

-- a file was read, and its facts, its comments and its text are kept
pub record AddedFile (told : Option (List ℕ)) (size number : ℕ) (old new : Gathered) (more : ℕ) : Type 0 where
  pub added : Added told size number old.facts new.facts more
  pub found : AddsFound (record { number = number; source = added.source }) added.bytes old new

abbrev pub AddsFile : Option (List ℕ) → ℕ → ℕ → Faults → Faults → Gathered → Gathered → Result ℕ Stop → Type 0
AddsFile told size number was is old new (Ok more) = (is ≡ was) × AddedFile told size number old new more
AddsFile told size number was is old new (Err why) = StopsBy old.terminals.err told size was is why

-- the files of these names were accepted, and their facts, their comments and their texts are kept
pub record ReachedAll (told : Name → Option (List ℕ)) (names : List Name) (size : ℕ) (checks : Bool) (terminals : Terminals) (all : Gathered) : Type 0 where
  pub reached : Reached told names size all.facts
  pub checks_are : all.checks ≡ checks
  pub comments : map fault_view all.comments.items ≡ comments_looked_for checks (numbered_files 0 reached.sources)
  pub terminals_are : all.terminals ≡ terminals
  pub texts : all.texts.items ≡ texts_shown (shows_lines terminals) reached.files

abbrev pub Gathers : {U : Type 0} → (Name → Option (List ℕ)) → List Name → Bool → Terminals → Faults → Faults → Gathered → Result U Stopped → Type 0
Gathers told names checks terminals was is all (Ok u) = (is ≡ was) × ((size : ℕ) × ReachedAll told names size checks terminals all)
Gathers told names checks terminals was is all (Err stopped) = StopsAt terminals.err told names was is stopped.name.now stopped.why
