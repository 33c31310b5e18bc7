-- Which bytes are a source, and the faults of others: our own choice, since the HCL Native Syntax Specification asks
-- for UTF-8 alone. The faults exclude each other, so bytes have one at most.
use Rattle.std.specs.Prelude.{◌≡◌, ℕ, ◌<◌, ◌≤◌, Bool, true, false, IsTrue, IsFalse, List, [], ◌∷◌, length, nat_eq, IsUtf8, Option, Result, Ok, Err}
use Rattle.std.specs.List.{starts_with}
use Rattle.std.specs.Str.{IsValidUpTo}
use Rattle.std.specs.Io.KnownBytes.{IsAtEnd}
use Rattle.hcl_source.specs.Places.{place}
use Rattle.hcl_source.specs.declared.fault.Fault.{Fault}
use Rattle.hcl_source.specs.declared.fault.LoadError.{LoadError}
use Rattle.hcl_source.specs.declared.fault.LoadError.TheVariants as error
use Rattle.hcl_source.specs.declared.fault.FaultKind.{FaultKind}
use Rattle.hcl_source.specs.declared.fault.FaultKind.TheVariants.{TooLarge, InvalidUtf8, ByteOrderMark, ResultTooLarge}

-- the most bytes that a source has
abbrev pub max_source : ℕ
max_source = 4_194_304

-- the bytes begin with a byte order mark, U+FEFF in UTF-8
abbrev pub has_byte_order_mark : List ℕ → Bool
has_byte_order_mark bytes = starts_with nat_eq bytes (0xEF ∷ 0xBB ∷ 0xBF ∷ [])

-- the definition of a source
pub record IsText (bytes : List ℕ) : Type 0 where
  pub small : length bytes ≤ max_source
  pub utf8 : IsUtf8 bytes
  pub unmarked : IsFalse (has_byte_order_mark bytes)

-- bytes that are no source have a fault of this kind at this offset
abbrev pub IsLoadFaultAt : List ℕ → FaultKind → ℕ → Type 0
IsLoadFaultAt bytes TooLarge at = (max_source < length bytes) × (at ≡ 0)
IsLoadFaultAt bytes InvalidUtf8 at = (length bytes ≤ max_source) × IsValidUpTo bytes at
IsLoadFaultAt bytes ByteOrderMark at =
    (length bytes ≤ max_source) × IsUtf8 bytes × IsTrue (has_byte_order_mark bytes) × (at ≡ 0)
IsLoadFaultAt bytes _ at = ⊥

-- THE FAULT for which bytes are refused
abbrev pub IsLoadFault : List ℕ → Fault → Type 0
IsLoadFault bytes fault = (at : ℕ) × IsLoadFaultAt bytes fault.kind at × (fault.at ≡ place bytes at)

-- the fault of a print that would have more bytes than a source may have: at its front
abbrev pub print_too_large : Fault
print_too_large = record { kind = ResultTooLarge; at = record { line = 1; column = 1 } }

-- an error of loading bytes that were read
abbrev pub IsLoadError : List ℕ → LoadError → Type 0
IsLoadError bytes (error.Fault fault) = IsLoadFault bytes fault
IsLoadError bytes error.ReadFailed = ⊥
IsLoadError bytes error.OutOfMemory = Unit {0}

-- The answer of loading, with `bytes` taken from a device that has `left` now: the bytes themselves, with nothing left;
-- or their fault, with nothing left unless they are too many.
abbrev pub Loads : List ℕ → Option (List ℕ) → Result (List ℕ) LoadError → Type 0
Loads bytes left (Ok source) = (source ≡ bytes) × IsText bytes × IsAtEnd left
Loads bytes left (Err (error.Fault fault)) =
    IsLoadFault bytes fault × (length bytes ≤ max_source → IsAtEnd left)
Loads bytes left (Err _) = Unit {0}

-- loading ended because a read failed
abbrev pub is_failed_load : Result (List ℕ) LoadError → Bool
is_failed_load (Err error.ReadFailed) = true
is_failed_load _ = false
