-- Files whose facts are kept, in turn.
use Rattle.std.specs.Prelude.{◌≡◌, ◌≤◌, ◌<◌, ◌+◌, ℕ, List, Option, Result, Ok, Err, length}
use Rattle.hcl_source.specs.Devices.{Tells}
use Rattle.hcl_source.specs.Load.{IsText}
use Rattle.hcl_grammar.specs.Verdict.{IsTextVerdict, verdict}
use Rattle.hcl_tokens.specs.Scanned.{Scanned}
use Rattle.hcl_tokens.specs.Scans.{Scans}
use Rattle.tf_rules.specs.Stored.{Stored, stored_of, with_file}
use Rattle.tfrules_command.specs.Answer.{names_of}
use Rattle.tfrules_command.specs.Files.{NamedFile, AreAccepted, max_module, numbered_files, size_of}
use Rattle.tfrules_command.specs.Rows.{AreFiles}
use Rattle.tfrules_command.specs.declared.gather.ScannedFile.{ScannedFile}
use Rattle.tfrules_command.specs.declared.stop.Stop.{Stop}
use Rattle.tfrules_command.specs.declared.stop.Stop.TheVariants as stop

-- the answer of scanning a text after others of this many bytes
abbrev pub ScansFile : List ℕ → ℕ → Result ScannedFile Stop → Type 0
ScansFile text size (Ok file) =
    (file.tokens.text ≡ text) × Scans text file.tokens.tokens × (file.all ≡ size + length text)
    × (file.all ≤ max_module)
ScansFile text size (Err (stop.Refused fault)) =
    (size + length text ≤ max_module) × IsTextVerdict text (Err fault)
ScansFile text size (Err stop.TooLarge) = max_module < size + length text
ScansFile text size (Err stop.OutOfMemory) = Unit {0}
ScansFile text size (Err _) = ⊥

-- the answer of keeping scanned tokens, with which the files have this many bytes
abbrev pub KeepsTokens : Scanned → ℕ → ℕ → Stored → Stored → Result ℕ Stop → Type 0
KeepsTokens scanned number all old new (Ok more) =
    (source : Scanned) × (Ok source ≡ verdict scanned) × (more ≡ all)
    × (new ≡ with_file old (record { number = number; source = source }))
KeepsTokens scanned number all old new (Err (stop.Refused fault)) = Err fault ≡ verdict scanned
KeepsTokens scanned number all old new (Err stop.OutOfMemory) = Unit {0}
KeepsTokens scanned number all old new (Err _) = ⊥

-- a file was read and kept
pub record Added (told : Option (List ℕ)) (size number : ℕ) (old new : Stored) (more : ℕ) : Type 0
  where
    pub bytes : List ℕ
    pub is : Tells told bytes
    pub text : IsText bytes
    pub source : Scanned
    pub outcome : IsTextVerdict bytes (Ok source)
    pub size_is : more ≡ size + length bytes
    pub fits : more ≤ max_module
    pub kept : new ≡ with_file old (record { number = number; source = source })

-- the files of these names were accepted and kept
pub record Reached (told : List ℕ
    → Option (List ℕ)) (names : List (List ℕ)) (size : ℕ) (kept : Stored) : Type 0 where
  pub files : List NamedFile
  pub named : names_of files ≡ names
  pub are : AreFiles told files
  pub sources : List Scanned
  pub accepted : AreAccepted files sources
  pub size_is : size ≡ size_of files
  pub kept_is : kept ≡ stored_of (numbered_files 0 sources)
