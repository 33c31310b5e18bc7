-- The gaps of a line from its level and two cells, token by token.
use Rattle.std.specs.Prelude.{◌≡◌, ◌<◌, ◌≤◌, ◌+◌, ◌^◌, ◌==◌, ℕ, List, [], ◌∷◌, Option, Some, None, IfSome, length, slice_set, if◌then◌else◌}
use Rattle.hcl_tokens.specs.Lexemes.{Lexeme}
use Rattle.hcl_tokens.specs.Balanced.{max_open}
use Rattle.hcl_layout.specs.Lines.{Line}
use Rattle.hcl_layout.specs.Cells.{trailing_comment}
use Rattle.hcl_layout.specs.Gaps.{blanks, indent, width}

-- a cell: its place in the line, the width before it, and the gap that then sets it into its column
pub record Cell : Type 0 where
  pub place : ℕ
  pub width : ℕ
  pub gap : ℕ

-- the inputs of a line's gaps
pub record LineGaps : Type 0 where
  pub level : ℕ
  pub assign : Option Cell
  pub comment : Option Cell

-- the gap of the cell at its place, otherwise the other gap
abbrev pub cell_gap : Option Cell → ℕ → ℕ → ℕ
cell_gap None k gap = gap
cell_gap (Some c) k gap = if c.place == k then c.gap else gap

-- the gaps by the level and the spacing alone, after the two tokens before
abbrev pub plain_gap : ℕ → Option Lexeme → Option Lexeme → Lexeme → ℕ
plain_gap level before None t = indent level t
plain_gap level before (Some subject) t = blanks before subject t

abbrev pub gap_of : LineGaps → ℕ → Option Lexeme → Option Lexeme → Lexeme → ℕ
gap_of g k before subject t = cell_gap g.comment k (cell_gap g.assign k (plain_gap g.level before subject t))

-- the gaps from the token at a place on
abbrev pub gaps_from : LineGaps → ℕ → Option Lexeme → Option Lexeme → Line → List ℕ
gaps_from g k before subject [] = []
gaps_from g k before subject (t ∷ line) = gap_of g k before subject t ∷ gaps_from g (k + 1) subject (Some t) line

abbrev pub gaps_in : LineGaps → Line → List ℕ
gaps_in g line = gaps_from g 0 None None line

abbrev pub set_cell : Option Cell → List ℕ → List ℕ
set_cell None gaps = gaps
set_cell (Some c) gaps = slice_set gaps c.place c.gap

-- the length of the texts with a blank for each
abbrev pub len_with_blanks : List Lexeme → ℕ
len_with_blanks [] = 0
len_with_blanks (t ∷ ts) = 1 + length t.text + len_with_blanks ts

-- no cell
abbrev pub plain_of : ℕ → LineGaps
plain_of level = record { level = level; assign = None; comment = None }

-- the place of the assign cell and the width before it, or the line's beginning if it has none
abbrev pub known_place : Option Cell → ℕ
known_place None = 0
known_place (Some c) = c.place

abbrev pub known_width : Option Cell → ℕ
known_width None = 0
known_width (Some c) = c.width

-- the width stored with the assign cell is the one before it
abbrev pub IsKnown : LineGaps → Line → Type 0
IsKnown g line = known_width g.assign ≡ width (known_place g.assign) (gaps_in g line) line

-- the line's sign is set, if it has one, and its comment isn't yet
pub record HasAssignSet (g : LineGaps) (line : Line) : Type 0 where
  pub level : g.level ≤ max_open
  pub plain : g.comment ≡ None
  pub known : IsKnown g line
  pub gap : IfSome g.assign (λ c. c.gap ≤ 2 ^ 33)
  pub front : IfSome g.assign (λ c. 0 < c.place)
  pub order : (i : ℕ) → trailing_comment line ≡ Some i → known_place g.assign ≤ i
