-- There is one gap for each token.
use Rattle.std.proofs.Common.{◌≡◌, ◌∙◌, ◌+◌, ℕ, zero, suc, Bool, true, false, List, [], ◌∷◌, ◌++◌, Option, Some, None, refl, arith, map, length, length-append}
use Rattle.std.specs.Prelude.{if◌then◌else◌, slice_set}
use Rattle.std.specs.List.{flat_map}
use Rattle.hcl_tokens.specs.Lexemes.{Lexeme}
use Rattle.hcl_layout.specs.Lines.{Line, ends_line, lines, onto_line}
use Rattle.hcl_layout.specs.Levels.{Net, level, levels_after, net_of}
use Rattle.hcl_layout.specs.Cells.{assign_cell, running_comment, trailing_comment}
use Rattle.hcl_layout.specs.Columns.{columns}
use Rattle.hcl_layout.proofs.ColumnLemmas.{columns_len}
use Rattle.hcl_layout.specs.Gaps.{aligned_gaps, aligned_gaps_by, gap_to, gaps, gaps_after, indented_gaps, line_gaps, plain_gaps, set_gap, width, widths, zip_with}

-- each line has a gap for each token
abbrev Fit : List (List ℕ) → List Line → Type 0
Fit [] [] = Unit {0}
Fit [] (l ∷ ls) = ⊥
Fit (g ∷ gs) [] = ⊥
Fit (g ∷ gs) (l ∷ ls) = (length g ≡ length l) × Fit gs ls

-- ---- a line by itself
after_length : (before : Option Lexeme) (u : Lexeme) (line : Line) → length (gaps_after before u line) ≡ length line
after_length before u [] = refl
after_length before u (t ∷ line) = omega (arith, after_length (Some u) t line)

plain_length : (n : ℕ) (line : Line) → length (plain_gaps n line) ≡ length line
plain_length n [] = refl
plain_length n (t ∷ line) = omega (arith, after_length None t line)

indented_fit : (before : List Net) (ls : List Line) → Fit (zip_with plain_gaps (levels_after before (map net_of ls)) ls) ls
indented_fit before [] = tt
indented_fit before (l ∷ ls) = (plain_length (level before (net_of l)) l, indented_fit (before ++ net_of l ∷ []) ls)

-- ---- cells
set_length : (gs : List ℕ) (i v : ℕ) → length (slice_set gs i v) ≡ length gs
set_length [] i v = refl
set_length (g ∷ gs) zero v = refl
set_length (g ∷ gs) (suc i) v = omega (arith, set_length gs i v)

align_length : (cell : Option ℕ) (gs : List ℕ) (line : Line) (column : Option ℕ) → length (set_gap cell gs line column) ≡ length gs
align_length None gs line column = refl
align_length (Some i) gs line column = set_length gs i (gap_to column (width i gs line))

zip_length : (f : List ℕ → Line → Option ℕ) (gs : List (List ℕ)) (ls : List Line) → Fit gs ls → length (zip_with f gs ls) ≡ length ls
zip_length f [] [] s = refl
zip_length f [] (l ∷ ls) s = absurd s
zip_length f (g ∷ gs) [] s = absurd s
zip_length f (g ∷ gs) (l ∷ ls) s = omega (arith, zip_length f gs ls s.1)

aligned_fit : (cell : Line → Option ℕ) (gs : List (List ℕ)) (ls : List Line) (cs : List (Option ℕ)) → length cs ≡ length ls → Fit gs ls → Fit (aligned_gaps_by cell gs ls cs) ls
aligned_fit cell [] [] cs e s = tt
aligned_fit cell [] (l ∷ ls) cs e s = absurd s
aligned_fit cell (g ∷ gs) [] cs e s = absurd s
aligned_fit cell (g ∷ gs) (l ∷ ls) [] e s = absurd (omega (arith, e))
aligned_fit cell (g ∷ gs) (l ∷ ls) (c ∷ cs) e s = (align_length (cell l) g l c ∙ s.0, aligned_fit cell gs ls cs (omega (arith, e)) s.1)

all_aligned : (cell running : Line → Option ℕ) (gs : List (List ℕ)) (ls : List Line) → Fit gs ls → Fit (aligned_gaps cell running gs ls) ls
all_aligned cell running gs ls s = aligned_fit cell gs ls (columns (widths running gs ls)) (columns_len [] (widths running gs ls) ∙ zip_length _ gs ls s) s

lines_fit : (ls : List Line) → Fit (line_gaps ls) ls
lines_fit ls = all_aligned trailing_comment running_comment (aligned_gaps assign_cell assign_cell (indented_gaps ls) ls) ls (all_aligned assign_cell assign_cell (indented_gaps ls) ls (indented_fit [] ls))

-- ---- all lines
abbrev total : List Line → ℕ
total [] = 0
total (l ∷ ls) = length l + total ls

flat_length : (gs : List (List ℕ)) (ls : List Line) → Fit gs ls → length (flat_map (λ g. g) gs) ≡ total ls
flat_length [] [] s = refl
flat_length [] (l ∷ ls) s = absurd s
flat_length (g ∷ gs) [] s = absurd s
flat_length (g ∷ gs) (l ∷ ls) s = length-append g (flat_map (λ h. h) gs) ∙ omega (arith, s.0, flat_length gs ls s.1)

onto_total : (t : Lexeme) (ls : List Line) → total (onto_line t ls) ≡ 1 + total ls
onto_total t [] = refl
onto_total t (l ∷ ls) = omega arith

split_total : (b : Bool) (t : Lexeme) (ls : List Line) → total (if b then (t ∷ []) ∷ ls else onto_line t ls) ≡ 1 + total ls
split_total true t ls = omega arith
split_total false t ls = onto_total t ls

lines_total : (ts : List Lexeme) → total (lines ts) ≡ length ts
lines_total [] = refl
lines_total (t ∷ ts) = split_total (ends_line t) t (lines ts) ∙ omega (arith, lines_total ts)

pub one_each : (ts : List Lexeme) → length (gaps ts) ≡ length ts
one_each ts = flat_length (line_gaps (lines ts)) (lines ts) (lines_fit (lines ts)) ∙ lines_total ts
