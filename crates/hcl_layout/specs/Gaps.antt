-- The gap before each token, in blanks: the indent of a line, the spacing within it, and the cells set to the columns
-- of their runs. Assign cells are set first, then trailing comments over the gaps that this gives.
-- Our own choice, in the style of `terraform fmt`. Widths are counted in extended grapheme clusters (UAX 29), each
-- token by itself.
use Rattle.std.specs.Prelude.{◌+◌, ◌-◌, ◌*◌, ◌||◌, ℕ, true, suc, zero, List, [], ◌∷◌, Option, Some, None, if◌then◌else◌, length, map, slice_set, option_map}
use Rattle.std.specs.List.{flat_map}
use Rattle.unicode_segmentation.specs.Grapheme.{graphemes}
use Rattle.hcl_tokens.specs.Lexemes.{Lexeme}
use Rattle.hcl_tokens.specs.Kinds.{is}
use Rattle.hcl_tokens.specs.declared.token.Kind.TheVariants as kind
use Rattle.hcl_layout.specs.Lines.{Line, lines}
use Rattle.hcl_layout.specs.Levels.{levels, net_of}
use Rattle.hcl_spacing.specs.Spacing.{has_blank}
use Rattle.hcl_layout.specs.Cells.{assign_cell, running_comment, trailing_comment}
use Rattle.hcl_layout.specs.Columns.{columns}

-- f on the members of two lists in step
abbrev pub zip_with : {A B C : Type 0} → (A → B → C) → List A → List B → List C
zip_with f (x ∷ xs) (y ∷ ys) = f x y ∷ zip_with f xs ys
zip_with _ _ _ = []

-- ---- a line by itself

abbrev pub blanks : Option Lexeme → Lexeme → Lexeme → ℕ
blanks before subject after = if has_blank before subject after then 1 else 0

-- the gaps after the subject
abbrev pub gaps_after : Option Lexeme → Lexeme → Line → List ℕ
gaps_after before subject [] = []
gaps_after before subject (after ∷ line) =
    blanks before subject after ∷ gaps_after (Some subject) after line

abbrev pub indent : ℕ → Lexeme → ℕ
indent level t = if is kind.Newline t.kind || t.inside_heredoc then 0 else 2 * level

-- the gaps of a line by its level and the spacing alone
abbrev pub plain_gaps : ℕ → Line → List ℕ
plain_gaps level [] = []
plain_gaps level (t ∷ line) = indent level t ∷ gaps_after None t line

-- ---- cells

abbrev pub clusters : Lexeme → ℕ
clusters t = length (graphemes true t.text)

-- the width before the token at a place: the gaps and the texts of those before it, and the gap before none of them
abbrev pub width : ℕ → List ℕ → Line → ℕ
width (suc i) (g ∷ gaps) (t ∷ line) = g + clusters t + width i gaps line
width _ _ _ = 0

-- the widths before the cells of the lines that are part of runs
abbrev pub widths : (Line → Option ℕ) → List (List ℕ) → List Line → List (Option ℕ)
widths cell = zip_with (λ gaps line. option_map (λ i. width i gaps line) (cell line))

-- the gap from a width to the column of the run, or one blank without a run
abbrev pub gap_to : Option ℕ → ℕ → ℕ
gap_to None own = 1
gap_to (Some column) own = column - own + 1

abbrev pub set_gap : Option ℕ → List ℕ → Line → Option ℕ → List ℕ
set_gap None gaps line column = gaps
set_gap (Some i) gaps line column = slice_set gaps i (gap_to column (width i gaps line))

-- the line's gaps with its cell in the column
abbrev pub align : (Line → Option ℕ) → List ℕ → Line → Option ℕ → List ℕ
align cell gaps line column = set_gap (cell line) gaps line column

abbrev pub aligned_gaps_by : (Line → Option ℕ) → List (List ℕ) → List Line → List (Option ℕ)
    → List (List ℕ)
aligned_gaps_by cell (g ∷ gs) (l ∷ ls) (c ∷ cs) = align cell g l c ∷ aligned_gaps_by cell gs ls cs
aligned_gaps_by _ _ _ _ = []

-- the cells of all lines set to their columns: `running` says which lines are part of runs
abbrev pub aligned_gaps : (Line → Option ℕ) → (Line → Option ℕ) → List (List ℕ) → List Line
    → List (List ℕ)
aligned_gaps cell running gaps ls = aligned_gaps_by cell gaps ls (columns (widths running gaps ls))

-- ---- all lines

abbrev pub indented_gaps : List Line → List (List ℕ)
indented_gaps ls = zip_with plain_gaps (levels (map net_of ls)) ls

abbrev pub line_gaps : List Line → List (List ℕ)
line_gaps ls =
    aligned_gaps trailing_comment running_comment
    (aligned_gaps assign_cell assign_cell (indented_gaps ls) ls) ls

-- the gap before each token
abbrev pub gaps : List Lexeme → List ℕ
gaps ts = flat_map (λ g. g) (line_gaps (lines ts))
