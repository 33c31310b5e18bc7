-- The rows of `tffmt` whose devices failed or whose memory ran out, besides those of its answers: our own choice.
use Rattle.std.specs.Prelude.{◌≡◌, ℕ, Bool, true, false, List, Option, Some, None, codes}
use Rattle.command_line.specs.Rows.{Program, Row, OrOutOfMemory, fails_with}

abbrev pub formatter : Program
formatter = record { name = codes "tffmt"; failure = 4 }

abbrev pub read_failed : Row
read_failed = fails_with formatter (codes "read failed")

-- some input has the property, and if the reader tells its remaining bytes, these are the input
abbrev pub OfInput : Option (List ℕ) → (List ℕ → Type 0) → Type 0
OfInput None P = (input : List ℕ) × P input
OfInput (Some input) P = P input

-- the row for a failed read, that for running out of memory, or one of the input's
abbrev pub IsRow : (List ℕ → Row → Type 0) → Bool → Option (List ℕ) → Row → Type 0
IsRow answer true left row = row ≡ read_failed
IsRow answer false left row =
    OrOutOfMemory formatter (λ r. OfInput left (λ input. answer input r)) row
