-- The gaps of a layout, one by one: after another token of the line the blank of the spacing table, or some blanks
-- before a cell; and no gap at a line's start before a token in a heredoc.
use Rattle.std.proofs.Common.{◌≡◌, ℕ, zero, suc, ◌+◌, ◌<◌, ◌||◌, Bool, true, false, List, [], ◌∷◌, ◌++◌, length, drop, Option, Some, None, ◌⊎◌, inl, inr, refl, sym, ap, subst, ◌∙◌, arith, ◌*◌}
use Rattle.std.specs.Prelude.{if◌then◌else◌, slice_set, map}
use Rattle.hcl_tokens.specs.Lexemes.{Lexeme}
use Rattle.hcl_tokens.proofs.BooleanLemmas.{or_true}
use Rattle.hcl_tokens.specs.Kinds.{is}
use Rattle.hcl_tokens.specs.declared.token.Kind.TheVariants as kind
use Rattle.hcl_layout.specs.Lines.{Line}
use Rattle.hcl_layout.specs.Levels.{Net, level, levels_after, net_of}
use Rattle.hcl_layout.specs.Cells.{is_assignment, is_trailing, has_multiline, before_comment, until, first_place, first_place_from, if_level, is_level, assign_cell, running_comment, trailing_comment}
use Rattle.hcl_layout.specs.Columns.{columns}
use Rattle.hcl_layout.proofs.ColumnLemmas.{columns_len}
use Rattle.hcl_layout.specs.Gaps.{blanks, gaps_after, plain_gaps, width, widths, gap_to, set_gap, align, aligned_gaps_by, aligned_gaps, indented_gaps, line_gaps, zip_with}

-- a token that may begin a cell
abbrev pub is_cell : Lexeme → Bool
is_cell t = is_assignment t || is_trailing t

-- a gap after the two tokens before it on the line
abbrev pub GapFor : Option Lexeme → Option Lexeme → ℕ → Lexeme → Type 0
GapFor before None g t = t.inside_heredoc ≡ true → g ≡ 0
GapFor before (Some u) g t = (g ≡ blanks before u t) ⊎ ((0 < g) × (is_cell t ≡ true))

abbrev pub Spread : Option Lexeme → Option Lexeme → List ℕ → Line → Type 0
Spread before u [] [] = Unit {0}
Spread before u [] (t ∷ line) = ⊥
Spread before u (g ∷ gs) [] = ⊥
Spread before u (g ∷ gs) (t ∷ line) = GapFor before u g t × Spread u (Some t) gs line

abbrev pub AllSpread : List (List ℕ) → List Line → Type 0
AllSpread [] [] = Unit {0}
AllSpread [] (l ∷ ls) = ⊥
AllSpread (g ∷ gs) [] = ⊥
AllSpread (g ∷ gs) (l ∷ ls) = Spread None None g l × AllSpread gs ls

-- ---- a line by itself
after_spread : (before : Option Lexeme) (u : Lexeme) (line : Line) → Spread before (Some u) (gaps_after before u line) line
after_spread before u [] = tt
after_spread before u (t ∷ line) = (inl refl, after_spread (Some u) t line)

plain_spread : (n : ℕ) (line : Line) → Spread None None (plain_gaps n line) line
plain_spread n [] = tt
plain_spread n (t ∷ line) = ((λ h. ap (λ v. if is kind.Newline t.kind || v then 0 else 2 * n) h ∙ ap (λ v. if v then 0 else 2 * n) (or_true (is kind.Newline t.kind))), after_spread None t line)

plain_all : (before : List Net) (ls : List Line) → AllSpread (zip_with plain_gaps (levels_after before (map net_of ls)) ls) ls
plain_all before [] = tt
plain_all before (l ∷ ls) = (plain_spread (level before (net_of l)) l, plain_all (before ++ net_of l ∷ []) ls)

-- ---- cells
abbrev CellAt : ℕ → Line → Type 0
CellAt i [] = ⊥
CellAt zero (t ∷ line) = is_cell t ≡ true
CellAt (suc i) (t ∷ line) = CellAt i line

set_after : (before : Option Lexeme) (u : Lexeme) (gs : List ℕ) (line : Line) (i v : ℕ) → Spread before (Some u) gs line → CellAt i line → 0 < v → Spread before (Some u) (slice_set gs i v) line
set_after before u [] [] i v s c lt = absurd c
set_after before u [] (t ∷ line) i v s c lt = absurd s
set_after before u (g ∷ gs) [] i v s c lt = absurd s
set_after before u (g ∷ gs) (t ∷ line) zero v s c lt = (inr (lt, c), s.1)
set_after before u (g ∷ gs) (t ∷ line) (suc i) v s c lt = (s.0, set_after (Some u) t gs line i v s.1 c lt)

set_line : (gs : List ℕ) (line : Line) (i v : ℕ) → Spread None None gs line → CellAt (suc i) line → 0 < v → Spread None None (slice_set gs (suc i) v) line
set_line [] [] i v s c lt = absurd c
set_line [] (t ∷ line) i v s c lt = absurd s
set_line (g ∷ gs) [] i v s c lt = absurd s
set_line (g ∷ gs) (t ∷ line) i v s c lt = (s.0, set_after None t gs line i v s.1 c lt)

-- a place counted from k on
abbrev Found : ℕ → ℕ → Line → Type 0
Found k i line = (j : ℕ) × (i ≡ k + j) × CellAt j line

some_is : (a b : ℕ) → Some a ≡ Some b → a ≡ b
some_is a b e = cc

place_cell : (test : Lexeme → Bool) → ((t : Lexeme) → test t ≡ true → is_cell t ≡ true) → (k i : ℕ) (line : Line) → first_place_from test k line ≡ Some i → Found k i line
place_cell test ok k i [] e = absurd (cc)
place_cell test ok k i (t ∷ line) e = by (test t) refl e (place_cell test ok (k + 1) i line)
  where
    by : (v : Bool) → test t ≡ v → (if v then Some k else first_place_from test (k + 1) line) ≡ Some i → (first_place_from test (k + 1) line ≡ Some i → Found (k + 1) i line) → Found k i (t ∷ line)
    by true h e rec = (0, omega (arith, some_is k i e), ok t h)
    by false h e rec = let r = rec e in (suc r.0, omega (arith, r.1), r.2)

until_cell : (test : Lexeme → Bool) (j : ℕ) (line : Line) → CellAt j (until test line) → CellAt j line
until_cell test j [] c = c
until_cell test j (t ∷ line) c = by (test t) j c (λ k. until_cell test k line)
  where
    by : (v : Bool) (j : ℕ) → CellAt j (if v then [] else t ∷ until test line) → ((k : ℕ) → CellAt k (until test line) → CellAt k line) → CellAt j (t ∷ line)
    by true zero c rec = absurd c
    by true (suc j) c rec = absurd c
    by false zero c rec = c
    by false (suc j) c rec = rec j c

-- the place of a cell, never the first
abbrev CellOf : Line → ℕ → Type 0
CellOf line i = (j : ℕ) × (i ≡ suc j) × CellAt (suc j) line

after_first : (line : Line) (i : ℕ) → Found 1 i (drop 1 line) → CellOf line i
after_first [] i f = absurd (f.2)
after_first (t ∷ line) i f = (f.0, omega (arith, f.1), f.2)

cell_before_comment : (line : Line) (i : ℕ) → Found 1 i (drop 1 (before_comment line)) → Found 1 i (drop 1 line)
cell_before_comment [] i f = f
cell_before_comment (t ∷ line) i f = (f.0, f.1, until_cell is_trailing f.0 line f.2)

sign_cell : (t : Lexeme) → is_assignment t ≡ true → is_cell t ≡ true
sign_cell t h = ap (λ v. v || is_trailing t) h

trailing_cell : (t : Lexeme) → is_trailing t ≡ true → is_cell t ≡ true
trailing_cell t h = ap (λ v. is_assignment t || v) h ∙ or_true (is_assignment t)

level_place : (line : Line) (p : Option ℕ) (i : ℕ) → if_level line p ≡ Some i → p ≡ Some i
level_place line None i e = e
level_place line (Some k) i e = by (is_level (net_of (drop k line))) e
  where
    by : (v : Bool) → (if v then Some k else None) ≡ Some i → Some k ≡ Some i
    by true e = e
    by false e = absurd (cc)

assign_at : (line : Line) (i : ℕ) → assign_cell line ≡ Some i → CellOf line i
assign_at line i e = by (has_multiline line) e
  where
    by : (v : Bool) → (if v then None else if_level (before_comment line) (first_place is_assignment (before_comment line))) ≡ Some i → CellOf line i
    by true e = absurd (cc)
    by false e = after_first line i (cell_before_comment line i (place_cell is_assignment sign_cell 1 i (drop 1 (before_comment line)) (level_place (before_comment line) (first_place is_assignment (before_comment line)) i e)))

trailing_at : (line : Line) (i : ℕ) → trailing_comment line ≡ Some i → CellOf line i
trailing_at line i e = after_first line i (place_cell is_trailing trailing_cell 1 i (drop 1 line) e)

some_gap : (column : Option ℕ) (own : ℕ) → 0 < gap_to column own
some_gap None own = omega arith
some_gap (Some c) own = omega arith

align_spread : (cell : Line → Option ℕ) → ((line : Line) (i : ℕ) → cell line ≡ Some i → CellOf line i) → (gs : List ℕ) (line : Line) (column : Option ℕ) → Spread None None gs line → Spread None None (align cell gs line column) line
align_spread cell at gs line column s = by (cell line) refl
  where
    by : (c : Option ℕ) → cell line ≡ c → Spread None None (set_gap c gs line column) line
    by None e = s
    by (Some i) e =
        let f = at line i e in
        let set = set_line gs line f.0 (gap_to column (width i gs line)) s f.2 (some_gap column (width i gs line)) in
        subst (λ k. Spread None None (slice_set gs k (gap_to column (width i gs line))) line) (sym f.1) set

aligned_spread : (cell : Line → Option ℕ) → ((line : Line) (i : ℕ) → cell line ≡ Some i → CellOf line i) → (gs : List (List ℕ)) (ls : List Line) (cs : List (Option ℕ)) → length cs ≡ length ls → AllSpread gs ls → AllSpread (aligned_gaps_by cell gs ls cs) ls
aligned_spread cell at [] [] cs e s = tt
aligned_spread cell at [] (l ∷ ls) cs e s = absurd s
aligned_spread cell at (g ∷ gs) [] cs e s = absurd s
aligned_spread cell at (g ∷ gs) (l ∷ ls) [] e s = absurd (omega (arith, e))
aligned_spread cell at (g ∷ gs) (l ∷ ls) (c ∷ cs) e s = (align_spread cell at g l c s.0, aligned_spread cell at gs ls cs (omega (arith, e)) s.1)

zip_len : (f : List ℕ → Line → Option ℕ) (gs : List (List ℕ)) (ls : List Line) → AllSpread gs ls → length (zip_with f gs ls) ≡ length ls
zip_len f [] [] s = refl
zip_len f [] (l ∷ ls) s = absurd s
zip_len f (g ∷ gs) [] s = absurd s
zip_len f (g ∷ gs) (l ∷ ls) s = omega (arith, zip_len f gs ls s.1)

all_aligned : (cell running : Line → Option ℕ) → ((line : Line) (i : ℕ) → cell line ≡ Some i → CellOf line i) → (gs : List (List ℕ)) (ls : List Line) → AllSpread gs ls → AllSpread (aligned_gaps cell running gs ls) ls
all_aligned cell running at gs ls s = aligned_spread cell at gs ls (columns (widths running gs ls)) (columns_len [] (widths running gs ls) ∙ zip_len _ gs ls s) s

-- THE GAPS OF ALL LINES
pub spread_lines : (ls : List Line) → AllSpread (line_gaps ls) ls
spread_lines ls = all_aligned trailing_comment running_comment trailing_at (aligned_gaps assign_cell assign_cell (indented_gaps ls) ls) ls (all_aligned assign_cell assign_cell assign_at (indented_gaps ls) ls (plain_all [] ls))
