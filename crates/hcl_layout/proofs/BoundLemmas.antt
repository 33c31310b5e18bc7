-- A print is no longer than the bound from its lines: without its one blank, a gap before a sign is no wider than the
-- greatest width before a cell of its group, and one before a comment no wider than twice that.
use Rattle.std.proofs.Common.{◌≡◌, ◌∙◌, ◌+◌, ◌-◌, ◌*◌, ◌++◌, ◌<◌, ◌≤◌, ℕ, suc, zero, Bool, true, false, List, [], ◌∷◌, Option, Some, None, length, ap, ap₂, refl, sym, arith, subst, drop, get_or, max, min, take, replicate, length-append}
use Rattle.std.specs.Prelude.{IfSome, nat_lt, option_map, slice_get, slice_set}
use Rattle.std.specs.List.{flat_map}
use Rattle.std.proofs.Math.Nat.{add-mul}
use Rattle.std.proofs.lemmas.List.{drop-drop, drop-take, length-replicate}
use Rattle.hcl_tokens.specs.Lexemes.{Lexeme}
use Rattle.hcl_tokens.specs.Balanced.{max_open}
use Rattle.hcl_layout.specs.Cells.{assign_cell, has_multiline, running_comment, trailing_comment}
use Rattle.hcl_layout.specs.Columns.{widest}
use Rattle.hcl_layout.specs.Gaps.{align, gap_to, gaps, gaps_after, plain_gaps, set_gap, width}
use Rattle.hcl_layout.specs.Lines.{Line, ends_line, lines, onto_line}
use Rattle.hcl_layout.specs.Print.{print, printed_text}
use Rattle.hcl_layout.specs.Inner.Depths.{BalancedFrom, Sound, depth_after, fresh_levels, level_at, next_levels, with_level}
use Rattle.hcl_layout.specs.Inner.Bounds.{AreDisjoint}
use Rattle.hcl_layout.specs.Inner.LineGaps.{len_with_blanks}
use Rattle.hcl_layout.specs.Inner.Rooms.{cells_of, no_extent, room_before, room_of, start_of, room_taken, with_cells, with_line, with_lines}
use Rattle.hcl_layout.specs.Inner.Stream.{assign_column, assign_widths, comment_column, comment_widths, comment_stream, next_of, first_gaps}
use Rattle.hcl_layout.specs.declared.bound.Extent.{Extent}
use Rattle.hcl_layout.proofs.ClusterLemmas.{clusters_few}
use Rattle.hcl_layout.proofs.LevelLemmas.{next_levels_sound, sound_less}
use Rattle.hcl_layout.proofs.LineLemmas.{blank, indented, line_next}
use Rattle.hcl_layout.proofs.RunLemmas.{assign_within, comment_within, multiline_some}
use Rattle.hcl_layout.proofs.StreamLemmas.{BalancedLines, after_low, balanced_lines, gaps_all}

-- ---- the gaps of one line

-- the gaps, apart from one blank before each token
abbrev excess : List ℕ → ℕ
excess [] = 0
excess (g ∷ gs) = (g - 1) + excess gs

excess_append : (xs ys : List ℕ) → excess (xs ++ ys) ≡ excess xs + excess ys
excess_append [] ys = omega arith
excess_append (x ∷ xs) ys = omega (arith, excess_append xs ys)

printed_excess : (gs : List ℕ) (ts : List Lexeme) → length (printed_text gs ts) ≤ excess gs + len_with_blanks ts
printed_excess [] ts = omega arith
printed_excess (g ∷ gs) [] = omega arith
printed_excess (g ∷ gs) (t ∷ ts) =
    omega (arith, length-append (replicate g 32 ++ t.text) (printed_text gs ts), length-append (replicate g 32) t.text, length-replicate {A = ℕ} g 32, printed_excess gs ts)

width_excess : (i : ℕ) (gs : List ℕ) (l : Line) → width i gs l ≤ excess gs + len_with_blanks (take i l)
width_excess zero gs l = omega arith
width_excess (suc i) [] l = omega arith
width_excess (suc i) (g ∷ gs) [] = omega arith
width_excess (suc i) (g ∷ gs) (t ∷ l) = omega (arith, clusters_few t.text, width_excess i gs l)

after_excess : (l : Line) (b : Option Lexeme) (s : Lexeme) → excess (gaps_after b s l) ≡ 0
after_excess [] b s = refl
after_excess (t ∷ l) b s = omega (arith, blank b s t, after_excess l (Some s) t)

plain_excess : (level : ℕ) (l : Line) → excess (plain_gaps level l) ≤ 2 * level
plain_excess level [] = omega arith
plain_excess level (t ∷ l) = omega (arith, indented level t, after_excess l None t)

set_excess : (gs : List ℕ) (i gap : ℕ) → excess (slice_set gs i gap) ≤ excess gs + (gap - 1)
set_excess [] i gap = omega arith
set_excess (g ∷ gs) zero gap = omega arith
set_excess (g ∷ gs) (suc i) gap = omega (arith, set_excess gs i gap)

-- ---- cells in columns

-- at most this much, if it is known
abbrev UpTo : ℕ → Option ℕ → Type 0
UpTo most column = IfSome column (λ c. c ≤ most)

-- this much for a cell
abbrev share : Option ℕ → ℕ → ℕ
share None most = 0
share (Some i) most = most

share_most : (cell : Option ℕ) (most : ℕ) → share cell most ≤ most
share_most None most = omega arith
share_most (Some i) most = omega arith

gap_excess : (most own : ℕ) (column : Option ℕ) → UpTo most column → gap_to column own - 1 ≤ most
gap_excess most own None p = omega arith
gap_excess most own (Some c) p = omega (arith, p)

cell_excess : (most : ℕ) (cell : Option ℕ) (gs : List ℕ) (l : Line) (column : Option ℕ) → UpTo most column → excess (set_gap cell gs l column) ≤ excess gs + share cell most
cell_excess most None gs l column p = omega arith
cell_excess most (Some i) gs l column p = omega (arith, set_excess gs i (gap_to column (width i gs l)), gap_excess most (width i gs l) column p)

next_upto : (most : ℕ) (column : Option ℕ) (ws : List (Option ℕ)) → widest ws ≤ most → UpTo most column → UpTo most (next_of column ws)
next_upto most column [] w p = tt
next_upto most column (None ∷ ws) w p = tt
next_upto most None (Some x ∷ ws) w p = w
next_upto most (Some c) (Some x ∷ ws) w p = p

-- ---- levels

level_low : (d e : ℕ) (levels : List ℕ) → Sound d levels → level_at d e levels ≤ d
level_low d e levels p = omega (arith, p.1 (min d e) (omega arith))

sound_after : (d e : ℕ) (levels : List ℕ) → e ≤ max_open → Sound d levels → Sound e (next_levels d e levels)
sound_after d e levels low p = go (nat_lt d e) refl
  where
    go : (v : Bool) → nat_lt d e ≡ v → Sound e (next_levels d e levels)
    go true v = next_levels_sound d e levels (next_levels d e levels) (grind arith) low p refl
    go false v =
        let le : e ≤ d = grind arith in
        let none : 0 ≡ e - d = omega arith in
        subst (λ n. Sound e (with_level levels (get_or levels d 0 + 1) (d + 1) n)) none (sound_less d e levels le p)

plain_low : (d : ℕ) (levels : List ℕ) (l : Line) → Sound d levels → excess (first_gaps d levels l) ≤ 2 * d
plain_low d levels l p = omega (arith, plain_excess (level_at d (depth_after d l) levels) l, level_low d (depth_after d l) levels p)

-- ---- the source text before a cell

front_room : (l : Line) (i n : ℕ) → AreDisjoint n l → i < length l → len_with_blanks (take i l) + n ≤ start_of (drop i l) + i
front_room [] i n p lt = absurd (omega (arith, lt))
front_room (t ∷ l) zero n p lt = omega (arith, p.0)
front_room (t ∷ l) (suc i) n p lt = omega (arith, p.0, front_room l i (t.start + length t.text) p.1 (omega (arith, lt)))

from_start : (l : Line) (n : ℕ) → AreDisjoint n l → AreDisjoint (start_of l) l
from_start [] n p = tt
from_start (t ∷ l) n p = (omega arith, p.1)

from_lower : (l : Line) (n : ℕ) → AreDisjoint n l → AreDisjoint 0 l
from_lower [] n p = tt
from_lower (t ∷ l) n p = (omega arith, p.1)

room_tells : (l : Line) (cell : Option ℕ) (i n : ℕ) → AreDisjoint n l → cell ≡ Some i → i < length l → len_with_blanks (take i l) ≤ room_before l cell
room_tells l None i n p e lt = cc
room_tells l (Some j) i n p e lt =
    let same : i ≡ j = by j i e in
    omega (arith, front_room l i (start_of l) (from_start l n p) lt, ap (λ k. start_of (drop k l) + k) same)
  where
    by : (a b : ℕ) → Some a ≡ Some b → b ≡ a
    by a b e = cc

-- the place of the token at a place of a line
pub place_starts : (ts : List Lexeme) (at len i : ℕ) (t : Lexeme) → slice_get ts (at + i) ≡ Some t → i < len → start_of (drop i (take len (drop at ts))) ≡ t.start
place_starts ts at len i t e lt =
    let whole : len ≡ i + (len - i) = omega (arith, lt) in
    ap (λ k. start_of (drop i (take k (drop at ts)))) whole
    ∙ ap start_of (drop-take i (len - i) (drop at ts))
    ∙ ap (λ (xs : List Lexeme). start_of (take (len - i) xs)) (drop-drop i at ts)
    ∙ ap start_of (line_next ts at len i t e lt)

pub room_is : (ts : List Lexeme) (first end n : ℕ) (a t : Lexeme) → first ≤ n → n < end → slice_get ts first ≡ Some a → slice_get ts n ≡ Some t
    → t.start + (n - first) - a.start ≡ room_before (take (end - first) (drop first ts)) (Some (n - first))
room_is ts first end n a t le lt p q =
    let place : n ≡ first + (n - first) = omega (arith, le) in
    let front : first ≡ first + 0 = omega arith in
    sym (ap₂ (λ (x y : ℕ). x + (n - first) - y) (place_starts ts first (end - first) (n - first) t (ap (slice_get ts) (sym place) ∙ q) (omega (arith, le, lt)))
    (place_starts ts first (end - first) 0 a (ap (slice_get ts) (sym front) ∙ p) (omega (arith, le, lt))))

abbrev LinesApart : ℕ → List Line → Type 0
LinesApart n [] = Unit {0}
LinesApart n (l ∷ ls) = AreDisjoint n l × LinesApart 0 ls

lines_lower : (ls : List Line) (n : ℕ) → LinesApart n ls → LinesApart 0 ls
lines_lower [] n p = tt
lines_lower (l ∷ ls) n p = (from_lower l n p.0, p.1)

onto_disjoint : (t : Lexeme) (n : ℕ) (ls : List Line) → n ≤ t.start → LinesApart (t.start + length t.text) ls → LinesApart n (onto_line t ls)
onto_disjoint t n [] p q = ((p, tt), tt)
onto_disjoint t n (l ∷ ls) p q = ((p, q.0), q.1)

lines_disjoint : (ts : List Lexeme) (n : ℕ) → AreDisjoint n ts → LinesApart n (lines ts)
lines_disjoint [] n p = tt
lines_disjoint (t ∷ ts) n p = go (lines_disjoint ts (t.start + length t.text) p.1) (ends_line t) refl
  where
    go : LinesApart (t.start + length t.text) (lines ts) → (v : Bool) → ends_line t ≡ v → LinesApart n (lines (t ∷ ts))
    go r true e = rw e ((p.0, tt), lines_lower (lines ts) (t.start + length t.text) r)
    go r false e = rw e (onto_disjoint t n (lines ts) p.0 r)

-- lines that begin with no more open than is allowed
record Fair (d : ℕ) (levels : List ℕ) (ls : List Line) : Type 0 where
  sound : Sound d levels
  low : d ≤ max_open
  balanced : BalancedLines d ls
  disjoint : LinesApart 0 ls

fair_after : (d : ℕ) (levels : List ℕ) (l : Line) (ls : List Line) → Fair d levels (l ∷ ls) → Fair (depth_after d l) (next_levels d (depth_after d l) levels) ls
fair_after d levels l ls p =
    let low : depth_after d l ≤ max_open = after_low l d p.balanced.0 p.low in
    record { sound = sound_after d (depth_after d l) levels low p.sound; low = low; balanced = p.balanced.1; disjoint = p.disjoint.1 }

-- ---- the final width of the current group

abbrev last_by : ℕ → ℕ → ℕ → ℕ
last_by zero w then = w
last_by (suc n) w then = then

abbrev last : ℕ → ℕ → List Line → ℕ
last d w [] = w
last d w (l ∷ ls) = last_by (cells_of (assign_cell l) (running_comment l)) w (last (depth_after d l) (max w (room_of d l)) ls)

last_keeps : (ls : List Line) (d w : ℕ) → w ≤ last d w ls
last_keeps [] d w = omega arith
last_keeps (l ∷ ls) d w = by (cells_of (assign_cell l) (running_comment l)) (last (depth_after d l) (max w (room_of d l)) ls) (omega (arith, last_keeps ls (depth_after d l) (max w (room_of d l))))
  where
    by : (n then : ℕ) → w ≤ then → w ≤ last_by n w then
    by zero then p = omega arith
    by (suc n) then p = p

-- a line with its sign in a column
signed_excess : (d : ℕ) (levels : List ℕ) (l : Line) (column : Option ℕ) (most : ℕ) → Sound d levels → UpTo most column
    → excess (align assign_cell (first_gaps d levels l) l column) ≤ 2 * d + share (assign_cell l) most
signed_excess d levels l column most p q = omega (arith, cell_excess most (assign_cell l) (first_gaps d levels l) l column q, plain_low d levels l p)

-- the width before a sign, and before a comment if the sign's column is no wider
sign_upto : (d w i : ℕ) (levels : List ℕ) (l : Line) (ls : List Line) → Fair d levels (l ∷ ls) → assign_cell l ≡ Some i
    → width i (first_gaps d levels l) l ≤ last (depth_after d l) (max w (room_of d l)) ls
sign_upto d w i levels l ls p e =
    omega (
      arith,
      width_excess i (first_gaps d levels l) l,
      plain_low d levels l p.sound,
      room_tells l (assign_cell l) i 0 p.disjoint.0 e (assign_within l i e),
      last_keeps ls (depth_after d l) (max w (room_of d l)),
    )

comment_upto : (d w j : ℕ) (levels : List ℕ) (l : Line) (ls : List Line) (column : Option ℕ) (most : ℕ) → Fair d levels (l ∷ ls) → running_comment l ≡ Some j
    → UpTo most column → last (depth_after d l) (max w (room_of d l)) ls ≤ most → width j (align assign_cell (first_gaps d levels l) l column) l ≤ 2 * most
comment_upto d w j levels l ls column most p e q le =
    let gs = align assign_cell (first_gaps d levels l) l column in
    omega (
      arith,
      width_excess j gs l,
      signed_excess d levels l column most p.sound q,
      share_most (assign_cell l) most,
      room_tells l (running_comment l) j 0 p.disjoint.0 e (comment_within l j (multiline_some (has_multiline l) (trailing_comment l) j e)),
      last_keeps ls (depth_after d l) (max w (room_of d l)),
      le,
    )

-- no width before a sign is greater
signs_widest : (ls : List Line) (d w : ℕ) (levels : List ℕ) → Fair d levels ls → widest (assign_widths d levels ls) ≤ last d w ls
signs_widest [] d w levels p = omega arith
signs_widest (l ∷ ls) d w levels p =
    let now = depth_after d l in
    let then = next_levels d now levels in
    by (assign_cell l) (running_comment l) (λ i. width i (first_gaps d levels l) l) (assign_widths now then ls) (last now (max w (room_of d l)) ls)
    (λ i e. sign_upto d w i levels l ls p e) (signs_widest ls now (max w (room_of d l)) then (fair_after d levels l ls p))
  where
    by : (a b : Option ℕ) (f : ℕ → ℕ) (ws : List (Option ℕ)) (then : ℕ) → ((i : ℕ) → a ≡ Some i → f i ≤ then) → widest ws ≤ then → widest (option_map f a ∷ ws) ≤ last_by (cells_of a b) w then
    by None b f ws then p q = omega arith
    by (Some i) None f ws then p q = omega (arith, p i refl, q)
    by (Some i) (Some j) f ws then p q = omega (arith, p i refl, q)

-- nor is a column
column_upto : (ls : List Line) (d w : ℕ) (levels : List ℕ) (column : Option ℕ) → Fair d levels ls → UpTo (last d w ls) column → UpTo (last d w ls) (assign_column d levels column ls)
column_upto ls d w levels column p q = next_upto (last d w ls) column (assign_widths d levels ls) (signs_widest ls d w levels p) q

-- the bound of a column of signs, carried past a line
carried : (a b : Option ℕ) (f : ℕ → ℕ) (ws : List (Option ℕ)) (column : Option ℕ) (indent room : ℕ) (e : Extent) (g : ℕ → ℕ)
    → UpTo (last_by (cells_of a b) e.width (g (max e.width room))) (next_of column (option_map f a ∷ ws))
    → UpTo (g (with_cells (cells_of a b) indent room e).width) (next_of column (option_map f a ∷ ws))
carried None b f ws column indent room e g p = tt
carried (Some i) None f ws column indent room e g p = p
carried (Some i) (Some j) f ws column indent room e g p = p

carried_comment : (a b : Option ℕ) (f : ℕ → ℕ) (ws : List (Option ℕ)) (column : Option ℕ) (indent room : ℕ) (e : Extent) (g : ℕ → ℕ)
    → UpTo (2 * last_by (cells_of a b) e.width (g (max e.width room))) (next_of column (option_map f b ∷ ws))
    → UpTo (2 * g (with_cells (cells_of a b) indent room e).width) (next_of column (option_map f b ∷ ws))
carried_comment a None f ws column indent room e g p = tt
carried_comment None (Some j) f ws column indent room e g p = p
carried_comment (Some i) (Some j) f ws column indent room e g p = p

comments_widest : (ls : List Line) (d w : ℕ) (levels : List ℕ) (column : Option ℕ) → Fair d levels ls → UpTo (last d w ls) column
    → widest (comment_widths d levels column ls) ≤ 2 * last d w ls
comments_widest [] d w levels column p q = omega arith
comments_widest (l ∷ ls) d w levels column p q =
    let now = depth_after d l in
    let then = next_levels d now levels in
    let here = assign_column d levels column (l ∷ ls) in
    let within : UpTo (last d w (l ∷ ls)) here = column_upto (l ∷ ls) d w levels column p q in
    let gs = align assign_cell (first_gaps d levels l) l here in
    by (assign_cell l) (running_comment l) (λ i. width i gs l) (comment_widths now then here ls) (last now (max w (room_of d l)) ls) here within
    (λ j e q. comment_upto d w j levels l ls here (last now (max w (room_of d l)) ls) p e q (omega arith))
    (λ q. comments_widest ls now (max w (room_of d l)) then here (fair_after d levels l ls p) q)
  where
    by : (a b : Option ℕ) (f : ℕ → ℕ) (ws : List (Option ℕ)) (then : ℕ) (column : Option ℕ) → UpTo (last_by (cells_of a b) w then) column
        → ((j : ℕ) → b ≡ Some j → UpTo then column → f j ≤ 2 * then) → (UpTo then column → widest ws ≤ 2 * then) → widest (option_map f b ∷ ws) ≤ 2 * last_by (cells_of a b) w then
    by a None f ws then column p q r = omega arith
    by None (Some j) f ws then column p q r = omega (arith, q j refl p, r p)
    by (Some i) (Some j) f ws then column p q r = omega (arith, q j refl p, r p)

-- the column of the comment of a line; none if its comment is in no run
beside : (f : ℕ → ℕ) (ws : List (Option ℕ)) (cell column : Option ℕ) (most : ℕ) → UpTo most (next_of column (option_map f cell ∷ ws)) → UpTo (share cell most) (next_of column (option_map f cell ∷ ws))
beside f ws None column most p = tt
beside f ws (Some i) column most p = p

-- ---- all lines

-- this many blanks at most, if the current group is no wider
abbrev cost : ℕ → Extent → ℕ
cost most e = e.passed + e.cells * most

-- another line
cost_more : (a b : Option ℕ) (indent room : ℕ) (e : Extent) (g : ℕ → ℕ)
    → cost (g (with_cells (cells_of a b) indent room e).width) (with_cells (cells_of a b) indent room e)
    ≡ cost (last_by (cells_of a b) e.width (g (max e.width room))) e + (indent + share a (last_by (cells_of a b) e.width (g (max e.width room))) + share b (2 * last_by (cells_of a b) e.width (g (max e.width room))))
cost_more None None indent room e g = omega arith
cost_more (Some i) None indent room e g = omega (arith, add-mul e.cells 1 (g (max e.width room)))
cost_more None (Some j) indent room e g = omega (arith, add-mul e.cells 2 (g (max e.width room)))
cost_more (Some i) (Some j) indent room e g = omega (arith, add-mul e.cells 3 (g (max e.width room)))

lines_excess : (ls : List Line) (d : ℕ) (levels : List ℕ) (column comment : Option ℕ) (e : Extent) → Fair d levels ls
    → UpTo (last d e.width ls) column → UpTo (2 * last d e.width ls) comment
    → excess (flat_map (λ g. g) (comment_stream d levels column comment ls)) + cost (last d e.width ls) e ≤ cost (with_lines d ls e).width (with_lines d ls e)
lines_excess [] d levels column comment e p q r = omega arith
lines_excess (l ∷ ls) d levels column comment e p q r =
    let now = depth_after d l in
    let then = next_levels d now levels in
    let here = assign_column d levels column (l ∷ ls) in
    let there = comment_column d levels column comment (l ∷ ls) in
    let most = last d e.width (l ∷ ls) in
    let more = with_line d l e in
    let a = assign_cell l in
    let b = running_comment l in
    let gs = align assign_cell (first_gaps d levels l) l here in
    let set = align trailing_comment gs l there in
    let f : ℕ → ℕ = λ i. width i (first_gaps d levels l) l in
    let h : ℕ → ℕ = λ i. width i gs l in
    let g : ℕ → ℕ = λ w. last now w ls in
    let within : UpTo most here = column_upto (l ∷ ls) d e.width levels column p q in
    let over : UpTo (2 * most) there = next_upto (2 * most) comment (comment_widths d levels column (l ∷ ls)) (comments_widest (l ∷ ls) d e.width levels column p q) r in
    let takes = share b (2 * most) in
    omega (
      arith,
      excess_append set (flat_map (λ g. g) (comment_stream now then here there ls)),
      cell_excess takes (trailing_comment l) gs l there (beside h (comment_widths now then here ls) b comment (2 * most) over),
      share_most (trailing_comment l) takes,
      signed_excess d levels l here most p.sound within,
      cost_more a b (2 * d) (room_of d l) e g,
      lines_excess ls now then here there more (fair_after d levels l ls p)
          (carried a b f (assign_widths now then ls) column (2 * d) (room_of d l) e g within)
          (carried_comment a b h (comment_widths now then here ls) comment (2 * d) (room_of d l) e g over),
    )

fresh_sound : Sound 0 fresh_levels
fresh_sound = (length-replicate {A = ℕ} (max_open + 1) 0, low)
  where
    low : (k : ℕ) → k ≤ 0 → get_or fresh_levels k 0 ≤ k
    low zero le = omega arith
    low (suc k) le = absurd (omega arith)

pub print_within : (ts : List Lexeme) → BalancedFrom 0 ts → AreDisjoint 0 ts → length (print ts) ≤ len_with_blanks ts + ((with_lines 0 (lines ts) no_extent).passed + room_taken (with_lines 0 (lines ts) no_extent))
print_within ts p q =
    omega (
      arith,
      printed_excess (gaps ts) ts,
      ap excess (gaps_all ts p),
      lines_excess (lines ts) 0 fresh_levels None None no_extent (record { sound = fresh_sound; low = omega arith; balanced = balanced_lines ts 0 p; disjoint = lines_disjoint ts 0 q }) tt tt,
    )
