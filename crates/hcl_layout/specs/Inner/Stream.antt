-- The gaps of the remaining lines, by the state after the lines before them: the depth, the levels by depth, and the
-- columns of the runs that the line before belongs to. The code follows this form; the gaps of whole lists are the same
-- (proofs/StreamLemmas).
use Rattle.std.specs.Prelude.{ℕ, List, [], ◌∷◌, Option, Some, None, option_map}
use Rattle.hcl_layout.specs.Lines.{Line}
use Rattle.hcl_layout.specs.Cells.{assign_cell, running_comment, trailing_comment}
use Rattle.hcl_layout.specs.Columns.{widest}
use Rattle.hcl_layout.specs.Gaps.{align, plain_gaps, width, widths}
use Rattle.hcl_layout.specs.Inner.Depths.{depth_after, level_at, next_levels}

-- ---- runs

-- the column of the first line, by that of the line before
abbrev pub next_of : Option ℕ → List (Option ℕ) → Option ℕ
next_of column [] = None
next_of column (None ∷ rest) = None
next_of None (Some width ∷ rest) = Some (widest (Some width ∷ rest))
next_of (Some column) (Some width ∷ rest) = Some column

-- the first line, by its level and the spacing alone
abbrev pub first_gaps : ℕ → List ℕ → Line → List ℕ
first_gaps d levels l = plain_gaps (level_at d (depth_after d l) levels) l

abbrev pub level_stream : ℕ → List ℕ → List Line → List (List ℕ)
level_stream d levels [] = []
level_stream d levels (l ∷ ls) = first_gaps d levels l ∷ level_stream (depth_after d l) (next_levels d (depth_after d l) levels) ls

abbrev pub assign_widths : ℕ → List ℕ → List Line → List (Option ℕ)
assign_widths d levels ls = widths assign_cell (level_stream d levels ls) ls

-- the column of the first line's assign cell
abbrev pub assign_column : ℕ → List ℕ → Option ℕ → List Line → Option ℕ
assign_column d levels column ls = next_of column (assign_widths d levels ls)

-- the first line with its assign cell in that column
abbrev pub assign_line : ℕ → List ℕ → Option ℕ → Line → List Line → List ℕ
assign_line d levels column l ls = align assign_cell (first_gaps d levels l) l (assign_column d levels column ls)

abbrev pub assign_stream : ℕ → List ℕ → Option ℕ → List Line → List (List ℕ)
assign_stream d levels column [] = []
assign_stream d levels column (l ∷ ls) =
    align assign_cell (first_gaps d levels l) l (assign_column d levels column (l ∷ ls))
    ∷ assign_stream (depth_after d l) (next_levels d (depth_after d l) levels) (assign_column d levels column (l ∷ ls)) ls

abbrev pub comment_widths : ℕ → List ℕ → Option ℕ → List Line → List (Option ℕ)
comment_widths d levels column ls = widths running_comment (assign_stream d levels column ls) ls

abbrev pub comment_column : ℕ → List ℕ → Option ℕ → Option ℕ → List Line → Option ℕ
comment_column d levels column comment ls = next_of comment (comment_widths d levels column ls)

abbrev pub comment_stream : ℕ → List ℕ → Option ℕ → Option ℕ → List Line → List (List ℕ)
comment_stream d levels column comment [] = []
comment_stream d levels column comment (l ∷ ls) =
    align trailing_comment (align assign_cell (first_gaps d levels l) l (assign_column d levels column (l ∷ ls))) l (comment_column d levels column comment (l ∷ ls))
    ∷ comment_stream (depth_after d l) (next_levels d (depth_after d l) levels) (assign_column d levels column (l ∷ ls)) (comment_column d levels column comment (l ∷ ls)) ls

-- ---- the widths of the first line

-- the width before the assign cell, if the line has one
abbrev pub assign_width : ℕ → List ℕ → Line → Option ℕ
assign_width d levels l = option_map (λ i. width i (first_gaps d levels l) l) (assign_cell l)

-- the width before the comment, if the line is part of runs of comments
abbrev pub comment_width : ℕ → List ℕ → Option ℕ → Line → List Line → Option ℕ
comment_width d levels column l ls = option_map (λ i. width i (assign_line d levels column l ls) l) (running_comment l)
