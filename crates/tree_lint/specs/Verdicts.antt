-- The verdict on a module: it has issues, as `tfrules` finds them in its files, and comments that silence nothing, if
-- they are checked; or it is refused, for a reason. The choice of the reason that is reported is our own.
use Rattle.std.specs.Prelude.{◌≡◌, ◌⊎◌, ◌||◌, ◌≤◌, ◌<◌, ◌+◌, ℕ, Bool, true, false, List, [], ◌∷◌, ◌++◌, Option, Some, Result, Ok, Err, codes, if◌then◌else◌, length, map}
use Rattle.hcl_grammar.specs.Verdict.{IsTextVerdict}
use Rattle.tree_lint.specs.CommentFaults.{CommentFault, comment_faults}
use Rattle.file_tree.specs.FaultTexts.{tree_fault_text}
use Rattle.file_tree.specs.Files.{Faults, Files, Name, Tells, with_fault}
use Rattle.file_tree.specs.Paths.{place}
use Rattle.file_tree.specs.declared.fault.TreeFault.TheVariants.{OutOfMemory}
use Rattle.hcl_source.specs.FaultTexts.{fault_text}
use Rattle.hcl_source.specs.Load.{IsLoadFault, IsText}
use Rattle.hcl_source.specs.declared.fault.Fault.{Fault}
use Rattle.hcl_tokens.specs.Scanned.{Scanned}
use Rattle.module_find.specs.Modules.{bytes_of_name, names_in}
use Rattle.module_find.specs.declared.module.Module.{Module}
use Rattle.source_snippet.specs.Snippets.{snippet_if}
use Rattle.tf_rules.specs.Answers.{AreIssues}
use Rattle.tf_rules.specs.Issues.{File, asked_of}
use Rattle.tf_rules.specs.declared.issue.Issue.{Issue}
use Rattle.tfrules_command.specs.Answer.{names_of}
use Rattle.tfrules_command.specs.Files.{AreAccepted, IsTooMuch, NamedFile, max_module, numbered_files, size_of}
use Rattle.tfrules_command.specs.Line.{max_files}
use Rattle.tfrules_command.specs.Rows.{AreFiles}
use Rattle.module_find.specs.Refusals.{Refusal, refusal_of}
use Rattle.module_find.specs.declared.policy.Policy.{Policy}
use Rattle.tree_lint.specs.declared.stop.Stop.{Stop}
use Rattle.tree_lint.specs.declared.stop.Stop.TheVariants as stop
use Rattle.tree_lint.specs.declared.written.Terminals.{Terminals}

-- ---- its files

-- the result for a linted module: its issues, its comments that are meant to silence a rule and don't, and the texts of
-- its files, if lines of them are shown
pub record Linted : Type 0 where
  pub issues : List Issue
  pub comments : List CommentFault
  pub texts : List (List ℕ)

-- the comments of files that are meant to silence a rule and don't, if they are checked
abbrev pub comments_looked_for : Bool → List File → List CommentFault
comments_looked_for checks files = if checks then comment_faults files else []

-- lines are shown on one of the two outputs, because it is a terminal
abbrev pub shows_lines : Terminals → Bool
shows_lines terminals = terminals.out || terminals.err

-- the texts of these files, if lines of them are shown
abbrev pub texts_shown : Bool → List NamedFile → List (List ℕ)
texts_shown shows files = if shows then map (λ file. file.bytes) files else []

-- all files of these names are accepted, and this is found in them
pub record HaveFound (told : Name
    → Option (List ℕ)) (terminals : Terminals) (policy : Policy) (names : List Name)
    (linted : Linted) : Type 0 where
  pub files : List NamedFile
  pub named : names_of files ≡ names
  pub are : AreFiles told files
  pub sources : List Scanned
  pub accepted : AreAccepted files sources
  pub issues : AreIssues (asked_of policy.settings) (numbered_files 0 sources) linted.issues
  pub comments : linted.comments ≡ comments_looked_for policy.checks (numbered_files 0 sources)
  pub texts : linted.texts ≡ texts_shown (shows_lines terminals) files

-- the line that is shown of bytes with a fault, after files of `size` bytes: the line of the fault's place, if lines
-- are shown. For bytes that are no text it is empty
abbrev pub IsShownFault : Bool → ℕ → List ℕ → Fault → List ℕ → Type 0
IsShownFault shows size bytes fault line =
    (IsLoadFault bytes fault × (line ≡ []))
    ⊎ (IsText bytes × (size + length bytes ≤ max_module) × IsTextVerdict bytes (Err fault)
    × (line ≡ snippet_if shows bytes fault.at))

-- why a file isn't kept after files of `size` bytes, by a device with these faults before and after: the file has a
-- fault, or is too much, or the one failed call has this fault, or memory ran out
abbrev pub StopsBy : Bool → Option (List ℕ) → ℕ → Faults → Faults → Stop → Type 0
StopsBy shows told size was is (stop.Refused fault line) =
    (is ≡ was)
    × ((bytes : List ℕ) × Tells told bytes × IsShownFault shows size bytes fault line.items)
StopsBy shows told size was is stop.TooLarge =
    (is ≡ was) × ((bytes : List ℕ) × Tells told bytes × IsTooMuch size bytes)
StopsBy shows told size was is (stop.Failed fault) =
    (is ≡ with_fault was (Some fault)) ⊎ ((fault ≡ OutOfMemory) × (is ≡ was))

-- all files before this one are accepted, and this one isn't kept
pub record StopsAt (shows : Bool) (told : Name
    → Option (List ℕ)) (names : List Name) (was is : Faults) (name : Name) (why : Stop) : Type 0
  where
    pub before : List NamedFile
    pub after : List Name
    pub split : names ≡ names_of before ++ name ∷ after
    pub are : AreFiles told before
    pub sources : List Scanned
    pub accepted : AreAccepted before sources
    pub by : StopsBy shows (told name) (size_of before) was is why

-- the refusal for that file
abbrev pub stop_refusal : Name → Stop → Refusal
stop_refusal name (stop.Refused fault line) =
    record { name = name; at = Some fault.at; text = fault_text fault.kind; snippet = line.items }
stop_refusal name stop.TooLarge = refusal_of name (codes "module too large")
stop_refusal name (stop.Failed fault) = refusal_of name (tree_fault_text fault)

-- ---- the module

-- a refusal of the module's folder
abbrev pub of_folder : Module → List ℕ → Refusal
of_folder m text = refusal_of (place m.folder.items) text

abbrev pub no_memory : Module → Refusal
no_memory m = of_folder m (codes "out of memory")

abbrev pub too_many : Module → Refusal
too_many m = of_folder m (codes "more than 256 files")

-- all of its files can be looked at and named, and they aren't too many
abbrev pub CanBeRead : Module → Type 0
CanBeRead m = (m.is_whole ≡ true) × (length m.files.items ≤ max_files)

-- why a module is refused, and its refusals: it isn't whole (the names that can't be looked at are reported when all
-- modules are linted), or has too many files, or a file of it isn't kept, or memory ran out
abbrev pub IsRefused : Files → Bool → Module → Faults → Faults → List Refusal → Type 0
IsRefused files shows m was is refusals =
    ((m.is_whole ≡ false) × (is ≡ was) × (refusals ≡ []))
    ⊎ (((m.is_whole ≡ true) × (max_files < length m.files.items) × (is ≡ was)
    × (refusals ≡ too_many m ∷ []))
    ⊎ ((CanBeRead m
    × ((name : Name) × (why : Stop)
    × StopsAt shows (bytes_of_name files) (names_in m) was is name why
    × (refusals ≡ stop_refusal name why ∷ [])))
    ⊎ (CanBeRead m × (is ≡ was) × (refusals ≡ no_memory m ∷ []))))

abbrev pub Verdict : Type 0
Verdict = Result Linted (List Refusal)

-- THE VERDICT ON A MODULE, by this policy, by a device with these faults before and after. Each failed call is reported
abbrev pub IsVerdict : Files → Terminals → Policy → Module → Faults → Faults → Verdict → Type 0
IsVerdict files terminals policy m was is (Ok linted) =
    CanBeRead m × (is ≡ was) × HaveFound (bytes_of_name files) terminals policy (names_in m) linted
IsVerdict files terminals policy m was is (Err refusals) =
    IsRefused files terminals.err m was is refusals
