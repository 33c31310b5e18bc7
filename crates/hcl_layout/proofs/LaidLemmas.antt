-- The gaps and the widths of a laid-out line, by token numbers.
use Rattle.std.proofs.Common.{◌*◌, ◌≡◌, ◌∙◌, ◌+◌, ◌-◌, ◌<◌, ◌≤◌, ◌==◌, ◌^◌, ℕ, suc, Bool, true, false, List, Option, Some, None, length, ap, ap₂, refl, sym, arith, take, drop}
use Rattle.std.specs.Prelude.{nat_lt, slice_get}
use Rattle.std.proofs.lemmas.Bool.Decides.{nat_tests}
use Rattle.hcl_tokens.specs.Balanced.{max_open}
use Rattle.hcl_tokens.specs.Lexemes.{Lexeme}
use Rattle.hcl_layout.specs.Gaps.{clusters, plain_gaps, width}
use Rattle.hcl_layout.specs.Lines.{Line}
use Rattle.hcl_layout.specs.Inner.Laid.{HasOwnGap, IsPlainOn, Laid, Stops, cell_of, rest_of, shape, text_of, width_on}
use Rattle.hcl_layout.specs.Inner.Left.{gap_before, plain_gap_before, token_before}
use Rattle.hcl_layout.specs.Inner.LineGaps.{Cell, HasAssignSet, LineGaps, cell_gap, gap_of, gaps_from, gaps_in, known_place, known_width, len_with_blanks, plain_of}
use Rattle.hcl_layout.specs.declared.lines.Cell.{Cell as CellLaid}
use Rattle.hcl_layout.specs.declared.lines.LaidLine.{LaidLine}
use Rattle.hcl_layout.proofs.LeftLemmas.{plain_small, printed_after, width_known, width_none}
use Rattle.hcl_layout.proofs.RunLemmas.{plain_in, plain_low, signed_narrow}
use Rattle.hcl_layout.proofs.SurveyLemmas.{drop_at}

-- ---- cells

other_place : (a n f : ℕ) → f < a → f ≤ n → (a ≡ n → ⊥) → (a - f == n - f) ≡ false
other_place a n f lt le disjoint = go (a - f == n - f) refl
  where
    equal : (x y : ℕ) → (x == y) ≡ true → x ≡ y
    equal x y e = grind (arith, nat_tests)

    go : (v : Bool) → (a - f == n - f) ≡ v → v ≡ false
    go true e = absurd (disjoint (omega (arith, lt, le, equal (a - f) (n - f) e)))
    go false e = refl

less : (a b : ℕ) → a < b → nat_lt a b ≡ true
less a b h = grind (arith, nat_tests)

-- and no other cell
pub cell_elsewhere : (l : LaidLine) (c : CellLaid) (n x : ℕ) → l.first < c.number → l.first ≤ n → (n ≡ c.number → ⊥) → cell_gap (cell_of l c) (n - l.first) x ≡ x
cell_elsewhere l c n x lt le disjoint = go (nat_lt c.number l.end) refl
  where
    there : (c.number - l.first == n - l.first) ≡ false
    there = other_place c.number n l.first lt le (λ e. disjoint (sym e))

    go : (v : Bool) → nat_lt c.number l.end ≡ v → cell_gap (cell_of l c) (n - l.first) x ≡ x
    go true e = rw (e, there) refl
    go false e = rw e refl

pub gap_plain : (ts : List Lexeme) (l : LaidLine) (n : ℕ) (t : Lexeme) → Laid ts l → l.first ≤ n → (n ≡ l.comment.number → ⊥) → (n ≡ l.assign.number → ⊥)
    → plain_gap_before ts l.level l.first n t ≡ gap_before ts (shape l) l.first n t
gap_plain ts l n t p le disjoint other =
    sym (cell_elsewhere l l.comment n (cell_gap (cell_of l l.assign) (n - l.first) (plain_gap_before ts l.level l.first n t)) p.comment_front le disjoint
    ∙ cell_elsewhere l l.assign n (plain_gap_before ts l.level l.first n t) p.sign_front le other)

pub plain_before_small : (ts : List Lexeme) (level first n : ℕ) (t : Lexeme) → level ≤ max_open → plain_gap_before ts level first n t ≤ 2 * max_open
plain_before_small ts level first n t low = plain_small level (token_before ts first (n - 1)) (token_before ts first n) t low

-- ---- stops

-- no cell is before the stop at this token
pub stops_here : (l : LaidLine) (n : ℕ) → HasOwnGap l n → Stops l n n
stops_here l n own = record { order = omega arith; first = λ lt. absurd (omega (arith, lt)); assign = λ le. le; comment = λ le. le; own = λ lt. own }

-- a missing cell has the number of the line's end
cell_none : (l : LaidLine) (c : CellLaid) → cell_of l c ≡ None → l.end ≤ c.number
cell_none l c e = go (nat_lt c.number l.end) refl
  where
    go : (v : Bool) → nat_lt c.number l.end ≡ v → l.end ≤ c.number
    go true q = absurd (some (cell_of l c) (rw q refl) e)
      where
        some : (o : Option Cell) → o ≡ Some (record { place = c.number - l.first; width = c.width; gap = c.gap }) → o ≡ None → ⊥
        some o a b = cc
    go false q = grind (arith, nat_tests)

pub bare_plain : (l : LaidLine) (from stop : ℕ) → shape l ≡ plain_of l.level → stop ≤ l.end → IsPlainOn l from stop
bare_plain l from stop bare within k lt le =
    let comment = cell_none l l.comment (ap (λ (g : LineGaps). g.comment) bare) in
    let assign = cell_none l l.assign (ap (λ (g : LineGaps). g.assign) bare) in
    (λ e. omega (arith, comment, within, le, e), λ e. omega (arith, assign, within, le, e))

pub signed_plain : (ts : List Lexeme) (l : LaidLine) (from stop : ℕ) → HasAssignSet (shape l) (text_of ts l) → stop ≤ l.end → (l.assign.number < stop → from ≡ l.assign.number) → IsPlainOn l from stop
signed_plain ts l from stop p within known k lt le =
    let comment = cell_none l l.comment p.plain in
    (λ e. omega (arith, comment, within, le, e), λ e. omega (arith, e, le, lt, known (omega (arith, e, le))))

-- ---- widths

-- another token
pub width_more : (ts : List Lexeme) (l : LaidLine) (n stop : ℕ) (t : Lexeme) → slice_get ts n ≡ Some t → l.first ≤ n → n < stop → stop ≤ l.end
    → width_on ts l n stop ≡ gap_before ts (shape l) l.first n t + clusters t + width_on ts l (n + 1) stop
width_more ts l n stop t e le lt within =
    let g : LineGaps = shape l in
    let k : ℕ = n - l.first in
    let one : l.end - n ≡ suc (l.end - (n + 1)) = omega (arith, lt, within) in
    let many : stop - n ≡ suc (stop - (n + 1)) = omega (arith, lt) in
    let b = token_before ts l.first (n - 1) in
    let s = token_before ts l.first n in
    let rest : Line = rest_of ts l (n + 1) in
    let place : k + 1 ≡ (n + 1) - l.first = omega (arith, le) in
    let last : n ≡ (n + 1) - 1 = omega arith in
    ap₂ (λ (m : ℕ) (xs : Line). width m (gaps_from g k b s xs) xs) many (ap₂ take one (drop_at ts n t e))
    ∙ ap (λ j. gap_of g k b s t + clusters t + width (stop - (n + 1)) (gaps_from g j s (Some t) rest) rest) place
    ∙ ap₂ (λ (m : ℕ) (u : Option Lexeme). gap_of g k b s t + clusters t + width (stop - (n + 1)) (gaps_from g ((n + 1) - l.first) (token_before ts l.first m) u rest) rest) last (sym (printed_after ts l.first n t e le))

-- before a token, and on from there
pub width_split : (ts : List Lexeme) (l : LaidLine) (k n : ℕ) → Laid ts l → l.first ≤ k → k ≤ n → n ≤ l.end
    → width (k - l.first) (gaps_in (shape l) (text_of ts l)) (text_of ts l) + width_on ts l k n ≡ width (n - l.first) (gaps_in (shape l) (text_of ts l)) (text_of ts l)
width_split ts l k n p from le within =
    let g : LineGaps = shape l in
    let text : Line = text_of ts l in
    let f : ℕ = l.first in
    let len : ℕ = l.end - f in
    let place : f + (k - f) ≡ k = omega (arith, from) in
    let left : len - (k - f) ≡ l.end - k = omega (arith, from, le, within) in
    let steps : (n - f) - (k - f) ≡ n - k = omega (arith, from, le) in
    let room : f + len ≤ length ts = omega (arith, p.some, p.within) in
    let on : ℕ → ℕ → ℕ → ℕ = λ m j i. width i (gaps_from g (k - f) (token_before ts f (m - 1)) (token_before ts f m) (take j (drop m ts))) (take j (drop m ts)) in
    let moved : on (f + (k - f)) (len - (k - f)) ((n - f) - (k - f)) ≡ on k (l.end - k) (n - k) =
    ap (λ m. on m (len - (k - f)) ((n - f) - (k - f))) place ∙ ap₂ (λ (j i : ℕ). on k j i) left steps in
    sym (ap (λ w. width (k - f) (gaps_in g text) text + w) moved)
    ∙ width_known g ts f len (k - f) (n - f) room (omega (arith, from, le)) (omega (arith, within))

-- from the front on
pub width_all : (ts : List Lexeme) (l : LaidLine) (n : ℕ) → Laid ts l → l.first ≤ n → n ≤ l.end → width_on ts l l.first n ≡ width (n - l.first) (gaps_in (shape l) (text_of ts l)) (text_of ts l)
width_all ts l n p le within =
    omega (arith, width_split ts l l.first n p (omega arith) le within, width_none (l.first - l.first) (gaps_in (shape l) (text_of ts l)) (text_of ts l) (omega arith))

-- before a sign, with no cell set
pub bare_width : (ts : List Lexeme) (l : LaidLine) (n : ℕ) → Laid ts l → shape l ≡ plain_of l.level → l.first ≤ n → n ≤ l.end → width_on ts l l.first n ≡ width (n - l.first) (plain_gaps l.level (text_of ts l)) (text_of ts l)
bare_width ts l n p bare le within =
    width_all ts l n p le within ∙ ap (λ (g : LineGaps). width (n - l.first) (gaps_in g (text_of ts l)) (text_of ts l)) bare
    ∙ ap (λ (gs : List ℕ). width (n - l.first) gs (text_of ts l)) (plain_in l.level (text_of ts l))

pub bare_narrow : (ts : List Lexeme) (l : LaidLine) (n : ℕ) → Laid ts l → shape l ≡ plain_of l.level → l.first ≤ n → n ≤ l.end → len_with_blanks ts ≤ 2 ^ 23 → width_on ts l l.first n ≤ 2 ^ 24
bare_narrow ts l n p bare le within few =
    omega (arith, bare_width ts l n p bare le within, plain_low ts l.first (l.end - l.first) l.level (n - l.first) p.level, few)

-- before a comment, with the sign set
pub signed_low : (ts : List Lexeme) (l : LaidLine) (n : ℕ) → HasAssignSet (shape l) (text_of ts l) → len_with_blanks ts ≤ 2 ^ 23 → width n (gaps_in (shape l) (text_of ts l)) (text_of ts l) ≤ 2 ^ 33 + 2 ^ 24
signed_low ts l n p few = omega (arith, signed_narrow ts l.first (l.end - l.first) (shape l) n (2 ^ 33) p.level p.plain p.gap, few)

pub sign_known : (ts : List Lexeme) (l : LaidLine) → l.assign.number < l.end → HasAssignSet (shape l) (text_of ts l) → l.assign.width ≡ width (l.assign.number - l.first) (gaps_in (shape l) (text_of ts l)) (text_of ts l)
sign_known ts l lt p =
    let in_line : nat_lt l.assign.number l.end ≡ true = less l.assign.number l.end lt in
    let cell : cell_of l l.assign ≡ Some (record { place = l.assign.number - l.first; width = l.assign.width; gap = l.assign.gap }) = rw in_line refl in
    ap known_width (sym cell) ∙ p.known ∙ ap (λ (o : Option Cell). width (known_place o) (gaps_in (shape l) (text_of ts l)) (text_of ts l)) cell
