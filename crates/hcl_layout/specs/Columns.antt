-- Cells in one column: each line with the cell gives the width before it, and a run is a maximal list of adjacent lines
-- with the cell. Our own choice, in the style of `terraform fmt`.
use Rattle.std.specs.Prelude.{ℕ, List, [], ◌∷◌, Option, Some, None, max}

-- the greatest width from here up to a line without the cell
abbrev pub widest : List (Option ℕ) → ℕ
widest [] = 0
widest (None ∷ rest) = 0
widest (Some width ∷ rest) = max width (widest rest)

-- for each line with the cell, the greatest width in its run: the widths of the lines from it on, and those of the
-- lines before it, nearest first
abbrev pub columns_after : List (Option ℕ) → List (Option ℕ) → List (Option ℕ)
columns_after before [] = []
columns_after before (None ∷ rest) = None ∷ columns_after (None ∷ before) rest
columns_after before (Some width ∷ rest) =
    Some (max (widest before) (widest (Some width ∷ rest)))
    ∷ columns_after (Some width ∷ before) rest

abbrev pub columns : List (Option ℕ) → List (Option ℕ)
columns = columns_after []
