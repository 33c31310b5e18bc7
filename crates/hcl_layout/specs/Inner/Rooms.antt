-- Bounds of the gaps of lines, line by line: their indents, and for each group (adjacent lines with a cell) the
-- greatest width before a cell times the number of cells.
use Rattle.std.specs.Prelude.{◌≤◌, ◌+◌, ◌-◌, ◌*◌, ◌^◌, ℕ, zero, suc, List, [], ◌∷◌, Option, Some, None, drop, max, option_map}
use Rattle.hcl_tokens.specs.Balanced.{max_open}
use Rattle.hcl_tokens.specs.Lexemes.{Lexeme}
use Rattle.hcl_layout.specs.Cells.{assign_cell, running_comment}
use Rattle.hcl_layout.specs.Inner.Depths.{depth_after}
use Rattle.hcl_layout.specs.Inner.Survey.{facts_in, text_at}
use Rattle.hcl_layout.specs.Lines.{Line}
use Rattle.hcl_layout.specs.declared.bound.Extent.{Extent}
use Rattle.hcl_layout.specs.declared.line.Line.{Line as LineRead}

-- the place of the first token
abbrev pub start_of : Line → ℕ
start_of [] = 0
start_of (t ∷ l) = t.start

-- the source text before a cell, with a blank for each token
abbrev pub room_before : Line → Option ℕ → ℕ
room_before l None = 0
room_before l (Some i) = start_of (drop i l) + i - start_of l

-- the cells of a line; a comment counts for two
abbrev pub cells_of : Option ℕ → Option ℕ → ℕ
cells_of None None = 0
cells_of (Some i) None = 1
cells_of None (Some j) = 2
cells_of (Some i) (Some j) = 3

abbrev pub room_of : ℕ → Line → ℕ
room_of d l = 2 * d + max (room_before l (assign_cell l)) (room_before l (running_comment l))

-- the room for the cells of the current group
abbrev pub room_taken : Extent → ℕ
room_taken e = e.cells * e.width

-- with a line of this many cells, or none, which ends the group
abbrev pub with_cells : ℕ → ℕ → ℕ → Extent → Extent
with_cells zero indent room e = record { passed = e.passed + indent + room_taken e; cells = 0; width = 0 }
with_cells (suc n) indent room e = record { passed = e.passed + indent; cells = e.cells + suc n; width = max e.width room }

-- with a line that begins at a depth
abbrev pub with_line : ℕ → Line → Extent → Extent
with_line d l e = with_cells (cells_of (assign_cell l) (running_comment l)) (2 * d) (room_of d l) e

abbrev pub with_lines : ℕ → List Line → Extent → Extent
with_lines d [] e = e
with_lines d (l ∷ ls) e = with_lines (depth_after d l) ls (with_line d l e)

-- with a line that was read
abbrev pub room_in : List Lexeme → LineRead → Option ℕ → ℕ
room_in ts r cell = room_before (text_at ts r.first (facts_in r)) (option_map (λ n. n - r.first) cell)

abbrev pub with_line_at : List Lexeme → ℕ → LineRead → Extent → Extent
with_line_at ts d r e = with_line d (text_at ts r.first (facts_in r)) e

-- without a line
abbrev pub no_extent : Extent
no_extent = record { passed = 0; cells = 0; width = 0 }

-- no wider than a source can have it
abbrev pub widest_room : ℕ
widest_room = 2 * max_open + 2 ^ 23

-- for at most this many tokens
pub record IsSmall (n : ℕ) (e : Extent) : Type 0 where
  pub cells : e.cells ≤ 3 * n
  pub width : e.width ≤ widest_room
  pub passed : e.passed + e.cells * widest_room ≤ n * (2 * max_open + 3 * widest_room)
