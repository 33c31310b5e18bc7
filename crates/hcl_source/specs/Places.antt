-- Lines and columns: our own choice, as editors count them. Lines are ended by LF; columns count extended grapheme
-- clusters (UAX 29), so a tab is one column and so is a letter with its combining marks.
use Rattle.std.specs.Prelude.{ℕ, ◌+◌, ◌==◌, true, List, take, length, count_by}
use Rattle.std.specs.List.{after_last}
use Rattle.unicode_segmentation.specs.Grapheme.{graphemes}
use Rattle.hcl_source.specs.declared.fault.Position.{Position}

-- lines begin at 1, and each LF ends one
abbrev pub line_of : List ℕ → ℕ → ℕ
line_of text at = 1 + count_by (λ b. b == 10) (take at text)

-- the text between the start of the line and the offset
abbrev pub line_before : List ℕ → ℕ → List ℕ
line_before text at = after_last (λ b. b == 10) (take at text)

-- columns begin at 1, and each grapheme cluster takes one
abbrev pub column_of : List ℕ → ℕ → ℕ
column_of text at = 1 + length (graphemes true (line_before text at))

-- the place of a byte offset in a text
abbrev pub place : List ℕ → ℕ → Position
place text at = record { line = line_of text at; column = column_of text at }
