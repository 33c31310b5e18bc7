-- The files of a module, and the outcome of each: it is refused for one fault, or it is too much, or it is accepted.
-- The bound on a module is our own choice.
use Rattle.std.specs.Prelude.{◌≡◌, ◌⊎◌, ◌≤◌, ◌<◌, ◌+◌, ℕ, List, [], ◌∷◌, Result, Ok, Err, length, sum_by}
use Rattle.std.specs.List.{AllZip}
use Rattle.hcl_source.specs.Load.{IsLoadFault, IsText}
use Rattle.hcl_tokens.specs.Scanned.{Scanned}
use Rattle.hcl_source.specs.declared.fault.Fault.{Fault}
use Rattle.hcl_grammar.specs.Verdict.{IsTextVerdict}
use Rattle.tf_rules.specs.Issues.{File}

pub record NamedFile : Type 0 where
  pub name : List ℕ
  pub bytes : List ℕ

-- the most bytes that the files of a module have together
abbrev pub max_module : ℕ
max_module = 33_554_432

abbrev pub size_of : List NamedFile → ℕ
size_of files = sum_by (λ file. length file.bytes) files

-- the bytes are a text that is accepted
abbrev pub IsAcceptedAs : NamedFile → Scanned → Type 0
IsAcceptedAs file source = IsText file.bytes × IsTextVerdict file.bytes (Ok source)

-- all are accepted, and they aren't too much
pub record AreAccepted (files : List NamedFile) (sources : List Scanned) : Type 0 where
  pub each : AllZip IsAcceptedAs files sources
  pub fit : size_of files ≤ max_module

-- after files with this many bytes this one is too much, which is tested before its tokens
abbrev pub IsTooMuch : ℕ → List ℕ → Type 0
IsTooMuch size bytes = IsText bytes × (max_module < size + length bytes)

-- after files with this many bytes this is the fault for which the bytes are refused
abbrev pub IsFault : ℕ → List ℕ → Fault → Type 0
IsFault size bytes fault =
    IsLoadFault bytes fault
    ⊎ (IsText bytes × (size + length bytes ≤ max_module) × IsTextVerdict bytes (Err fault))

-- the files as the rules see them, with rising numbers
abbrev pub numbered_files : ℕ → List Scanned → List File
numbered_files n [] = []
numbered_files n (s ∷ ss) = record { number = n; source = s } ∷ numbered_files (n + 1) ss
