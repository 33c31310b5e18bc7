-- The answer of `tfrules` to a line of words and the files that it names. Its texts, its statuses and the order in
-- which the files are refused are our own choice.
use Rattle.std.specs.Prelude.{◌≡◌, ◌⊎◌, ℕ, List, [], ◌∷◌, ◌++◌, Result, Ok, Err, codes, map}
use Rattle.command_line.specs.Rows.{Program, Row, error, fails_with, fault_words, line}
use Rattle.hcl_tokens.specs.Scanned.{Scanned}
use Rattle.hcl_source.specs.declared.fault.Fault.{Fault}
use Rattle.tf_rules.specs.Answers as rules
use Rattle.tf_rules.specs.declared.issue.Issue.{Issue}
use Rattle.tfrules_command.specs.Files.{NamedFile, AreAccepted, IsFault, IsTooMuch, numbered_files, size_of}
use Rattle.tfrules_command.specs.Line.{Request, options_of}
use Rattle.tfrules_command.specs.Report.{report_row}
use Rattle.tfrules_command.specs.declared.usage.Usage.{Usage}
use Rattle.tfrules_command.specs.declared.usage.Usage.TheVariants as usage

abbrev pub linter : Program
linter = record { name = codes "tfrules"; failure = 1 }

-- ---- rows

-- `tfrules: error: FILE:LINE:COLUMN: TEXT`
abbrev pub refusal_row : List ℕ → Fault → Row
refusal_row name fault =
    record { out = []; err = error linter (name ++ (codes ":" ++ fault_words fault)); status = 1 }

-- `tfrules: error: FILE: TEXT`
abbrev pub file_error : List ℕ → List ℕ → Row
file_error name text =
    record { out = []; err = error linter (name ++ (codes ": " ++ line text)); status = 1 }

abbrev pub too_large : List ℕ → Row
too_large name = file_error name (codes "module too large")

abbrev pub usage_line : List ℕ
usage_line =
    line (codes
    "usage: tfrules [--rules LIST] [--naming snake_case|mixed_snake_case] [--minimum-failure-severity error|warning|notice] [--force] [--help] FILE...")

-- ---- the answer

-- after files with this many bytes, this file ends the run with the row
abbrev pub IsRefused : ℕ → NamedFile → Row → Type 0
IsRefused size file row =
    ((fault : Fault) × IsFault size file.bytes fault × (row ≡ refusal_row file.name fault))
    ⊎ (IsTooMuch size file.bytes × (row ≡ too_large file.name))

-- all files are accepted, and the row is that of their issues
pub record IsReported (asking : Request) (files : List NamedFile) (row : Row) : Type 0 where
  pub sources : List Scanned
  pub accepted : AreAccepted files sources
  pub issues : List Issue
  pub found : rules.AreIssues asking.asked (numbered_files 0 sources) issues
  pub is : row ≡ report_row asking issues

-- all files before one are accepted, and the row is that of its refusal
pub record IsRefusedFirst (files : List NamedFile) (row : Row) : Type 0 where
  pub before : List NamedFile
  pub file : NamedFile
  pub after : List NamedFile
  pub split : files ≡ before ++ file ∷ after
  pub sources : List Scanned
  pub accepted : AreAccepted before sources
  pub refusal : IsRefused (size_of before) file row

abbrev pub names_of : List NamedFile → List (List ℕ)
names_of files = map (λ file. file.name) files

-- THE ANSWER to the request of a line and the files that it names, each once, in order. Running out of memory is the
-- usage of no line.
abbrev pub IsAnswerBy : Result Request Usage → List NamedFile → Row → Type 0
IsAnswerBy (Ok asking) files row =
    (names_of files ≡ asking.files) × (IsReported asking files row ⊎ IsRefusedFirst files row)
IsAnswerBy (Err usage.Help) files row = row ≡ record { out = usage_line; err = []; status = 0 }
IsAnswerBy (Err usage.BadLine) files row = row ≡ record { out = []; err = usage_line; status = 1 }
IsAnswerBy (Err usage.UnknownRule) files row = row ≡ fails_with linter (codes "unknown rule")
IsAnswerBy (Err usage.BadNaming) files row = row ≡ fails_with linter (codes "unknown naming")
IsAnswerBy (Err usage.BadSeverity) files row = row ≡ fails_with linter (codes "unknown severity")
IsAnswerBy (Err usage.TooManyFiles) files row =
    row ≡ fails_with linter (codes "more than 256 files")
IsAnswerBy (Err usage.OutOfMemory) files row = ⊥
