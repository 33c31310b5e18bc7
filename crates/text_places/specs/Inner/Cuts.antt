-- Where lines end, for the walk through two texts.
use Rattle.std.specs.Prelude.{◌≡◌, ℕ, ◌<◌, ◌≤◌, ◌-◌, List, ◌∷◌, drop, length, slice_index, take}
use Rattle.line_diff.specs.Diffs.{lines_of}
use Rattle.text_places.specs.Edits.{Edit}

abbrev pub between : List ℕ → ℕ → ℕ → List ℕ
between text from to = take (to - from) (drop from text)

-- of a text from an offset on, the first line ends at another
pub record CutsLine (text : List ℕ) (at end : ℕ) : Type 0 where
  pub after : at < end
  pub within : end ≤ length text
  pub lines : lines_of (drop at text) ≡ between text at end ∷ lines_of (drop end text)
  pub stops : end < length text → slice_index text (end - 1) ≡ 10

-- a part of a new text in place of a part of an old one
abbrev pub change : ℕ → ℕ → List ℕ → ℕ → ℕ → Edit
change from to new start end = record { from = from; to = to; text = between new start end }
