-- The formatter's answer for bytes: they have a format, or a fault because of which they have none.
use Rattle.std.specs.Prelude.{◌≡◌, ◌⊎◌, ◌≤◌, ◌<◌, ℕ, List, Ok, Err, Option, Some, None, length}
use Rattle.hcl_source.specs.Load.{max_source, IsText, IsLoadFault, print_too_large}
use Rattle.hcl_source.specs.declared.fault.Fault.{Fault}
use Rattle.hcl_tokens.specs.Scanned.{Scanned}
use Rattle.hcl_grammar.specs.Verdict.{IsTextVerdict}
use Rattle.hcl_layout.specs.Print.{print}

-- THE FORMAT of bytes: they are a file of the language, and this is its print, which is not too large
pub record IsFormat (bytes formatted : List ℕ) : Type 0 where
  pub text : IsText bytes
  pub source : Scanned
  pub accepted : IsTextVerdict bytes (Ok source)
  pub printed : formatted ≡ print source.tokens
  pub fits : length formatted ≤ max_source

-- the fault because of which a text is refused: that of its verdict, or that its print is too large
abbrev pub IsTextFault : List ℕ → Fault → Type 0
IsTextFault text fault =
    IsTextVerdict text (Err fault)
    ⊎ ((source : Scanned) × IsTextVerdict text (Ok source)
    × (max_source < length (print source.tokens)) × (fault ≡ print_too_large))

-- THE FAULT because of which bytes have no format
abbrev pub IsFault : List ℕ → Fault → Type 0
IsFault bytes fault = IsLoadFault bytes fault ⊎ (IsText bytes × IsTextFault bytes fault)

-- the format of bytes, or none if they are refused
abbrev pub HasFormat : List ℕ → Option (List ℕ) → Type 0
HasFormat bytes (Some formatted) = IsFormat bytes formatted
HasFormat bytes None = (fault : Fault) × IsFault bytes fault
