-- Reading a run ahead, line by line.
use Rattle.std.proofs.Common.{◌*◌, ◌≡◌, ◌∙◌, ◌+◌, ◌-◌, ◌<◌, ◌≤◌, ◌^◌, ℕ, suc, zero, Bool, true, false, List, [], ◌∷◌, Option, Some, None, length, ap, refl, sym, arith, take, drop}
use Rattle.std.specs.Prelude.{IfSome, slice_set, if◌then◌else◌}
use Rattle.hcl_tokens.specs.Lexemes.{Lexeme}
use Rattle.hcl_tokens.specs.Balanced.{max_open}
use Rattle.hcl_layout.specs.Cells.{assign_cell, before_comment, has_multiline, if_level, is_level, is_assignment, is_trailing, first_place_from, trailing_comment, until}
use Rattle.hcl_layout.specs.Gaps.{align, gap_to, plain_gaps, width}
use Rattle.hcl_layout.specs.Levels.{net_of}
use Rattle.hcl_layout.specs.Inner.LineGaps.{IsKnown, HasAssignSet, len_with_blanks, gaps_in, plain_of, set_cell}
use Rattle.hcl_layout.specs.Lines.{Line}
use Rattle.hcl_layout.specs.Inner.LineGaps.{Cell}
use Rattle.hcl_layout.specs.Inner.LineGaps.{LineGaps}
use Rattle.hcl_layout.proofs.LineLemmas.{gaps_in_is, width_before, width_set, width_small}
use Rattle.hcl_layout.proofs.SurveyLemmas.{place_within}

-- ---- sizes

len_with_blanks_cut : (n : ℕ) (ts : List Lexeme) → len_with_blanks (take n ts) + len_with_blanks (drop n ts) ≡ len_with_blanks ts
len_with_blanks_cut zero ts = omega arith
len_with_blanks_cut (suc n) [] = refl
len_with_blanks_cut (suc n) (t ∷ ts) = omega (arith, len_with_blanks_cut n ts)

pub len_with_blanks_line : (ts : List Lexeme) (at n : ℕ) → len_with_blanks (take n (drop at ts)) ≤ len_with_blanks ts
len_with_blanks_line ts at n = omega (arith, len_with_blanks_cut n (drop at ts), len_with_blanks_cut at ts)

pub plain_in : (level : ℕ) (line : Line) → gaps_in (plain_of level) line ≡ plain_gaps level line
plain_in level line = gaps_in_is (plain_of level) line

pub plain_low : (ts : List Lexeme) (at n level i : ℕ) → level ≤ max_open → width i (plain_gaps level (take n (drop at ts))) (take n (drop at ts)) ≤ 2 * max_open + len_with_blanks ts
plain_low ts at n level i low = omega (arith, width_small level i (take n (drop at ts)), len_with_blanks_line ts at n, low)

-- ---- places

until_short : (test : Lexeme → Bool) (line : Line) → length (until test line) ≤ length line
until_short test [] = omega arith
until_short test (t ∷ line) = go (until_short test line) (test t) refl
  where
    go : length (until test line) ≤ length line → (v : Bool) → test t ≡ v → length (until test (t ∷ line)) ≤ length (t ∷ line)
    go r true e = rw e (omega arith)
    go r false e = rw e (omega arith)

level_some : (line : Line) (assign : Option ℕ) (i : ℕ) → if_level line assign ≡ Some i → assign ≡ Some i
level_some line None i e = e
level_some line (Some j) i e = go (is_level (net_of (drop j line))) refl
  where
    go : (v : Bool) → is_level (net_of (drop j line)) ≡ v → Some j ≡ Some i
    go true v = rw v at e
    go false v = let h : None ≡ Some i = rw v at e in cc

pub multiline_some : (a : Bool) (x : Option ℕ) (i : ℕ) → (if a then None else x) ≡ Some i → x ≡ Some i
multiline_some true x i e = cc
multiline_some false x i e = e

pub comment_within : (line : Line) (i : ℕ) → trailing_comment line ≡ Some i → i < length line
comment_within [] i e = cc
comment_within (t ∷ line) i e = omega (arith, (place_within is_trailing 1 line i e).1)

until_found : (test : Lexeme → Bool) (k : ℕ) (line : Line) (j : ℕ) → first_place_from test k line ≡ Some j → j ≡ k + length (until test line)
until_found test k [] j e = cc
until_found test k (t ∷ line) j e = go (λ h. until_found test (k + 1) line j h) (test t) refl
  where
    here : (a b : ℕ) → Some a ≡ Some b → a ≡ b
    here a b h = cc

    go : (first_place_from test (k + 1) line ≡ Some j → j ≡ (k + 1) + length (until test line)) → (v : Bool) → test t ≡ v → j ≡ k + length (until test (t ∷ line))
    go r true v = let h : Some k ≡ Some j = rw v at e in rw v (omega (arith, here k j h))
    go r false v = let h : first_place_from test (k + 1) line ≡ Some j = rw v at e in rw v (omega (arith, r h))

assign_sign : (t : Lexeme) (line : Line) (i : ℕ) → assign_cell (t ∷ line) ≡ Some i → first_place_from is_assignment 1 (until is_trailing line) ≡ Some i
assign_sign t line i e =
    level_some (t ∷ until is_trailing line) (first_place_from is_assignment 1 (until is_trailing line)) i (multiline_some (has_multiline (t ∷ line)) (if_level (before_comment (t ∷ line)) (first_place_from is_assignment 1 (until is_trailing line))) i e)

pub assign_within : (line : Line) (i : ℕ) → assign_cell line ≡ Some i → i < length line
assign_within [] i e = let h : None ≡ Some i = multiline_some (has_multiline []) None i e in cc
assign_within (t ∷ line) i e =
    omega (arith, (place_within is_assignment 1 (until is_trailing line) i (assign_sign t line i e)).1, until_short is_trailing line)

-- the assign cell is before the trailing comment
pub assign_before : (line : Line) (i j : ℕ) → assign_cell line ≡ Some i → trailing_comment line ≡ Some j → i ≤ j
assign_before [] i j e f = let h : None ≡ Some i = multiline_some (has_multiline []) None i e in cc
assign_before (t ∷ line) i j e f = omega (arith, (place_within is_assignment 1 (until is_trailing line) i (assign_sign t line i e)).1, until_found is_trailing 1 line j f)

-- no cell is at the line's front
pub assign_after : (line : Line) (i : ℕ) → assign_cell line ≡ Some i → 0 < i
assign_after [] i e = let h : None ≡ Some i = multiline_some (has_multiline []) None i e in cc
assign_after (t ∷ line) i e = omega (arith, (place_within is_assignment 1 (until is_trailing line) i (assign_sign t line i e)).0)

pub comment_after : (line : Line) (i : ℕ) → trailing_comment line ≡ Some i → 0 < i
comment_after [] i e = cc
comment_after (t ∷ line) i e = omega (arith, (place_within is_trailing 1 line i e).0)

-- ---- the gaps of a line with its cells

pub aligned_none : (gaps : List ℕ) (l : Line) (column : Option ℕ) → assign_cell l ≡ None → gaps ≡ align assign_cell gaps l column
aligned_none gaps l column e = rw e refl

pub aligned_some : (gaps : List ℕ) (l : Line) (column i gap : ℕ) → assign_cell l ≡ Some i → gap ≡ column - width i gaps l + 1 → slice_set gaps i gap ≡ align assign_cell gaps l (Some column)
aligned_some gaps l column i gap e f = rw (e, f) refl

pub assigned_in : (level i own gap : ℕ) (line : Line) → gaps_in (record { level = level; assign = Some (record { place = i; width = own; gap = gap }); comment = None }) line ≡ slice_set (plain_gaps level line) i gap
assigned_in level i own gap line = gaps_in_is (record { level = level; assign = Some (record { place = i; width = own; gap = gap }); comment = None }) line

-- the width stored with an assign cell
pub known_set : (level i own gap : ℕ) (line : Line) → own ≡ width i (plain_gaps level line) line → IsKnown (record { level = level; assign = Some (record { place = i; width = own; gap = gap }); comment = None }) line
known_set level i own gap line e = e ∙ sym (ap (λ g. width i g line) (assigned_in level i own gap line) ∙ width_before (plain_gaps level line) line i gap)

signed_wide : (assign : Option Cell) (level : ℕ) (line : Line) (k n : ℕ) → IfSome assign (λ c. c.gap ≤ n) → width k (set_cell assign (plain_gaps level line)) line ≤ 2 * level + len_with_blanks line + n
signed_wide None level line k n p = omega (arith, width_small level k line)
signed_wide (Some c) level line k n p = omega (arith, p, width_set (plain_gaps level line) line c.place k c.gap, width_small level k line)

-- with a sign whose gap is at most this
pub signed_narrow : (ts : List Lexeme) (at len : ℕ) (g : LineGaps) (k n : ℕ) → g.level ≤ max_open → g.comment ≡ None → IfSome g.assign (λ c. c.gap ≤ n)
    → width k (gaps_in g (take len (drop at ts))) (take len (drop at ts)) ≤ 2 * max_open + len_with_blanks ts + n
signed_narrow ts at len g k n low plain small =
    let line : Line = take len (drop at ts) in
    let same = ap (λ gs. width k gs line) (gaps_in_is g line ∙ ap (λ (o : Option Cell). set_cell o (set_cell g.assign (plain_gaps g.level line))) plain) in
    omega (arith, same, signed_wide g.assign g.level line k n small, len_with_blanks_line ts at len, low)

-- ---- a line with its sign

pub signed_set : (level i own gap : ℕ) (line : Line) → level ≤ max_open → assign_cell line ≡ Some i → own ≡ width i (plain_gaps level line) line → gap ≤ 2 ^ 33
    → HasAssignSet (record { level = level; assign = Some (record { place = i; width = own; gap = gap }); comment = None }) line
signed_set level i own gap line low e w small = record {
  level = low;
  plain = refl;
  known = known_set level i own gap line w;
  gap = small;
  front = assign_after line i e;
  order = λ j f. assign_before line i j e f;
}

pub commented_in : (level : ℕ) (assign comment : Option Cell) (i own gap : ℕ) (line : Line) → comment ≡ None
    → gaps_in (record { level = level; assign = assign; comment = Some (record { place = i; width = own; gap = gap }) }) line ≡ slice_set (gaps_in (record { level = level; assign = assign; comment = comment }) line) i gap
commented_in level assign comment i own gap line e =
    gaps_in_is (record { level = level; assign = assign; comment = Some (record { place = i; width = own; gap = gap }) }) line
    ∙ ap (λ (l : List ℕ). slice_set l i gap) (sym (gaps_in_is (record { level = level; assign = assign; comment = comment }) line ∙ ap (λ (o : Option Cell). set_cell o (set_cell assign (plain_gaps level line))) e))

pub comment_cell : (gaps : List ℕ) (l : Line) (column : Option ℕ) (i gap : ℕ) → trailing_comment l ≡ Some i → gap ≡ gap_to column (width i gaps l) → slice_set gaps i gap ≡ align trailing_comment gaps l column
comment_cell gaps l column i gap e f = rw (e, f) refl

-- ---- the column of a line's comment
