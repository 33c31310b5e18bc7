-- Tests of many bytes at a time.
use Rattle.std.specs.Prelude.{◌≡◌, ℕ, ◌+◌, ◌-◌, ◌<◌, ◌≤◌, ◌==◌, if◌then◌else◌, List, true, length, drop, get_or}
use Rattle.std.specs.Int.{bit_at, w64, trailing_zeros}
use Rattle.hcl_tokens.specs.Spelling.{starts}

-- the place of the lowest bit that is set, or n
abbrev pub first_set : ℕ → ℕ → ℕ
first_set mask n = if mask == 0 then n else trailing_zeros w64 mask

-- a marker line's marker may be after the place, by the bytes around it and at its ends
pub record IsLikely (text marker : List ℕ) (place : ℕ) : Type 0 where
  pub before : get_or text place 0 ≤ 32
  pub front : get_or text (place + 1) 0 ≡ get_or marker 0 0
  pub back : get_or text (place + length marker) 0 ≡ get_or marker (length marker - 1) 0
  pub following : get_or text (place + length marker + 1) 0 ≤ 32

-- bit k is set if it may be after `at + k`
pub record MarksLikely (text marker : List ℕ) (at mask : ℕ) : Type 0 where
  pub within : (k : ℕ) → bit_at mask k ≡ 1 → k < 32
  pub set : (k : ℕ) → k < 32 → IsLikely text marker (at + k) → bit_at mask k ≡ 1

-- and it is there
pub record Stands (text marker : List ℕ) (place : ℕ) : Type 0 where
  pub likely : IsLikely text marker place
  pub begins : starts (drop (place + 1) text) marker ≡ true

-- bit k is set if it is after `at + k`
pub record MarksStanding (text marker : List ℕ) (at mask : ℕ) : Type 0 where
  pub within : (k : ℕ) → bit_at mask k ≡ 1 → k < 32
  pub set : (k : ℕ) → k < 32 → Stands text marker (at + k) → bit_at mask k ≡ 1

-- it isn't after the places from `from` up to `to`
abbrev pub NoneStands : List ℕ → List ℕ → ℕ → ℕ → Type 0
NoneStands text marker from to = (k : ℕ) → from ≤ k → k < to → ¬ Stands text marker k

-- nor after any place before n
pub record IsAfterOthers (text marker : List ℕ) (place n : ℕ) : Type 0 where
  pub low : place < n
  pub none : (k : ℕ) → place ≤ k → k + 1 < n → ¬ Stands text marker k
