-- The rows of `tfrules` if an open or a read failed or memory ran out, besides those of its answers: our own choice.
use Rattle.std.specs.Prelude.{◌≡◌, ℕ, Bool, true, false, List, ◌∷◌, ◌++◌, Option, Some, None, Result, Ok, Err, All, codes}
use Rattle.command_line.specs.Rows.{Row, OrOutOfMemory}
use Rattle.hcl_source.specs.Devices.{Tells}
use Rattle.hcl_tokens.specs.Scanned.{Scanned}
use Rattle.tfrules_command.specs.Answer.{IsAnswerBy, file_error, linter, names_of}
use Rattle.tfrules_command.specs.Files.{NamedFile, AreAccepted}
use Rattle.tfrules_command.specs.Line.{Request}
use Rattle.tfrules_command.specs.declared.usage.Usage.{Usage}

-- the files of a module, if a device tells the bytes of a name
abbrev pub AreFiles : (List ℕ → Option (List ℕ)) → List NamedFile → Type 0
AreFiles told files = All (λ file. Tells (told file.name) file.bytes) files

-- all files before one are accepted, and the row reports this for the next one
pub record IsUnread (text : List ℕ) (told : List ℕ
    → Option (List ℕ)) (asking : Request) (row : Row) : Type 0 where
  pub before : List NamedFile
  pub name : List ℕ
  pub after : List (List ℕ)
  pub split : asking.files ≡ names_of before ++ name ∷ after
  pub files : AreFiles told before
  pub sources : List Scanned
  pub accepted : AreAccepted before sources
  pub is : row ≡ file_error name text

-- nothing is opened without options
abbrev pub IsUnreadBy : List ℕ → (List ℕ → Option (List ℕ)) → Result Request Usage → Row → Type 0
IsUnreadBy text told (Ok asking) row = IsUnread text told asking row
IsUnreadBy text told (Err usage) row = ⊥

-- the answer to some files, as the device tells them
abbrev pub IsAnswerTo : (List ℕ → Option (List ℕ)) → Result Request Usage → Row → Type 0
IsAnswerTo told options row =
    (files : List NamedFile) × AreFiles told files × IsAnswerBy options files row

-- the row for a failed open, for a failed read, or of an answer
abbrev pub IsRowBy : (List ℕ → Option (List ℕ)) → Result Request Usage → Bool → Bool → Row → Type 0
IsRowBy told options true read_failed = IsUnreadBy (codes "cannot be opened") told options
IsRowBy told options false true = IsUnreadBy (codes "read failed") told options
IsRowBy told options false false = IsAnswerTo told options

-- or that for running out of memory
abbrev pub IsRow : (List ℕ → Option (List ℕ)) → Result Request Usage → Bool → Bool → Row → Type 0
IsRow told options open_failed read_failed =
    OrOutOfMemory linter (IsRowBy told options open_failed read_failed)
