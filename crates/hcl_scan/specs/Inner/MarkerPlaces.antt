-- The place of a marker in its line.
use Rattle.std.specs.Prelude.{◌≡◌, ◌≢◌, ℕ, ◌+◌, ◌-◌, ◌<◌, ◌≤◌, true, IsTrue, List, length, drop, get_or}
use Rattle.std.specs.List.{prefix_len}
use Rattle.memchr.specs.Find.{OccursAt}
use Rattle.hcl_tokens.specs.Spelling.{is_blank}
use Rattle.hcl_tokens.specs.Scans.{skip_blanks, at_line_end, IsMarkerLine}

-- the marker is after n bytes, and in no marker line from `at` on before that
pub record IsPlace (marker text : List ℕ) (at n : ℕ) : Type 0 where
  pub low : at ≤ n
  pub occurs : OccursAt text marker n
  pub first : (m : ℕ) → at ≤ m → IsMarkerLine marker text m → n ≤ m + prefix_len is_blank (drop m text)

-- a line begins after n bytes of the text, with only blanks from there up to the place
pub record IsBlankFront (text : List ℕ) (place n : ℕ) : Type 0 where
  pub before : n ≤ place
  pub starts_line : 0 < n → get_or text (n - 1) 0 ≡ 10
  pub blank : (k : ℕ) → n ≤ k → k < place → is_blank (get_or text k 0) ≡ true

-- there are only blanks between a place and the end of its line
abbrev pub EndsLine : List ℕ → ℕ → Type 0
EndsLine text at = IsTrue (at_line_end (skip_blanks (drop at text)))

-- the first line after the place begins after n bytes of the text
pub record IsNextLine (text : List ℕ) (place n : ℕ) : Type 0 where
  pub beyond : place < n
  pub within : n ≤ length text
  pub starts_line : get_or text (n - 1) 0 ≡ 10
  pub first : (m : ℕ) → place < m → m < n → get_or text (m - 1) 0 ≢ 10
