-- The gaps and the widths of one line, token by token.
use Rattle.std.proofs.Common.{◌≡◌, ◌∙◌, ◌+◌, ◌-◌, ◌*◌, ◌<◌, ◌≤◌, ℕ, suc, zero, Bool, true, false, List, [], ◌∷◌, Option, Some, None, ap, ap₂, refl, arith, take, drop}
use Rattle.std.specs.Prelude.{if◌then◌else◌, slice_get, slice_set, nat_eq, ◌||◌}
use Rattle.hcl_tokens.specs.Lexemes.{Lexeme}
use Rattle.hcl_layout.specs.Gaps.{blanks, clusters, gaps_after, indent, plain_gaps, width}
use Rattle.hcl_layout.specs.Inner.LineGaps.{len_with_blanks, cell_gap, gap_of, gaps_from, gaps_in, plain_gap, set_cell}
use Rattle.hcl_tokens.specs.Kinds.{is}
use Rattle.hcl_tokens.specs.declared.token.Kind.TheVariants as kind
use Rattle.hcl_layout.specs.Lines.{Line}
use Rattle.hcl_spacing.specs.Spacing.{has_blank}
use Rattle.hcl_layout.specs.Inner.LineGaps.{Cell}
use Rattle.hcl_layout.specs.Inner.LineGaps.{LineGaps}
use Rattle.hcl_layout.proofs.ClusterLemmas.{clusters_few}
use Rattle.hcl_layout.proofs.SurveyLemmas.{drop_at}

-- ---- cell by cell

abbrev push : Option Cell → ℕ → List ℕ → List ℕ
push c k [] = []
push c k (x ∷ xs) = cell_gap c k x ∷ push c (k + 1) xs

abbrev plain_from : ℕ → Option Lexeme → Option Lexeme → Line → List ℕ
plain_from level before subject [] = []
plain_from level before subject (t ∷ line) = plain_gap level before subject t ∷ plain_from level subject (Some t) line

from_puts : (line : Line) (g : LineGaps) (k : ℕ) (b s : Option Lexeme) → gaps_from g k b s line ≡ push g.comment k (push g.assign k (plain_from g.level b s line))
from_puts [] g k b s = refl
from_puts (t ∷ line) g k b s = ap (λ l. gap_of g k b s t ∷ l) (from_puts line g (k + 1) s (Some t))

plain_after : (line : Line) (level : ℕ) (b : Option Lexeme) (s : Lexeme) → plain_from level b (Some s) line ≡ gaps_after b s line
plain_after [] level b s = refl
plain_after (t ∷ line) level b s = ap (λ l. blanks b s t ∷ l) (plain_after line level (Some s) t)

plain_all : (line : Line) (level : ℕ) → plain_from level None None line ≡ plain_gaps level line
plain_all [] level = refl
plain_all (t ∷ line) level = ap (λ l. indent level t ∷ l) (plain_after line level None t)

put_none : (xs : List ℕ) (k : ℕ) → push None k xs ≡ xs
put_none [] k = refl
put_none (x ∷ xs) k = ap (λ l. x ∷ l) (put_none xs (k + 1))

put_past : (c : Cell) (xs : List ℕ) (k : ℕ) → c.place < k → push (Some c) k xs ≡ xs
put_past c [] k lt = refl
put_past c (x ∷ xs) k lt =
    let other : nat_eq c.place k ≡ false = grind arith in
    ap₂ (λ (a : ℕ) (l : List ℕ). a ∷ l) (rw other refl) (put_past c xs (k + 1) (omega arith))

put_at : (c : Cell) (xs : List ℕ) (k i : ℕ) → c.place ≡ k + i → push (Some c) k xs ≡ slice_set xs i c.gap
put_at c [] k zero e = refl
put_at c [] k (suc i) e = refl
put_at c (x ∷ xs) k zero e =
    let same : nat_eq c.place k ≡ true = grind arith in
    ap₂ (λ (a : ℕ) (l : List ℕ). a ∷ l) (rw same refl) (put_past c xs (k + 1) (omega arith))
put_at c (x ∷ xs) k (suc i) e =
    let other : nat_eq c.place k ≡ false = grind arith in
    ap₂ (λ (a : ℕ) (l : List ℕ). a ∷ l) (rw other refl) (put_at c xs (k + 1) i (omega arith))

put_cell : (c : Option Cell) (xs : List ℕ) → push c 0 xs ≡ set_cell c xs
put_cell None xs = put_none xs 0
put_cell (Some c) xs = put_at c xs 0 c.place (omega arith)

pub gaps_in_is : (g : LineGaps) (line : Line) → gaps_in g line ≡ set_cell g.comment (set_cell g.assign (plain_gaps g.level line))
gaps_in_is g line =
    from_puts line g 0 None None ∙ ap (λ l. push g.comment 0 (push g.assign 0 l)) (plain_all line g.level)
    ∙ ap (push g.comment 0) (put_cell g.assign (plain_gaps g.level line)) ∙ put_cell g.comment (set_cell g.assign (plain_gaps g.level line))

-- ---- widths are small

pub blank : (b : Option Lexeme) (s a : Lexeme) → blanks b s a ≤ 1
blank b s a = go (has_blank b s a)
  where
    go : (v : Bool) → (if v then 1 else 0) ≤ 1
    go true = omega arith
    go false = omega arith

after_small : (line : Line) (i : ℕ) (b : Option Lexeme) (t : Lexeme) → width i (gaps_after b t line) line ≤ len_with_blanks line
after_small line zero b t = omega arith
after_small [] (suc i) b t = omega arith
after_small (u ∷ line) (suc i) b t = omega (arith, blank b t u, clusters_few u.text, after_small line i (Some t) u)

pub indented : (level : ℕ) (t : Lexeme) → indent level t ≤ 2 * level
indented level t = go (is kind.Newline t.kind || t.inside_heredoc)
  where
    go : (v : Bool) → (if v then 0 else 2 * level) ≤ 2 * level
    go true = omega arith
    go false = omega arith

pub width_small : (level i : ℕ) (line : Line) → width i (plain_gaps level line) line ≤ 2 * level + len_with_blanks line
width_small level zero line = omega arith
width_small level (suc i) [] = omega arith
width_small level (suc i) (t ∷ line) = omega (arith, indented level t, clusters_few t.text, after_small line i None t)

pub width_set : (gs : List ℕ) (line : Line) (i k gap : ℕ) → width k (slice_set gs i gap) line ≤ width k gs line + gap
width_set gs line i zero gap = omega arith
width_set [] line i (suc k) gap = omega arith
width_set (g ∷ gs) [] zero (suc k) gap = omega arith
width_set (g ∷ gs) [] (suc i) (suc k) gap = omega arith
width_set (g ∷ gs) (t ∷ line) zero (suc k) gap = omega arith
width_set (g ∷ gs) (t ∷ line) (suc i) (suc k) gap = omega (arith, width_set gs line i k gap)

pub width_before : (gs : List ℕ) (line : Line) (i gap : ℕ) → width i (slice_set gs i gap) line ≡ width i gs line
width_before gs line zero gap = refl
width_before [] line (suc i) gap = refl
width_before (g ∷ gs) [] (suc i) gap = refl
width_before (g ∷ gs) (t ∷ line) (suc i) gap = ap (λ w. g + clusters t + w) (width_before gs line i gap)

-- ---- one more token of a line

pub line_next : (ts : List Lexeme) (at len k : ℕ) (t : Lexeme) → slice_get ts (at + k) ≡ Some t → k < len
    → take (len - k) (drop (at + k) ts) ≡ t ∷ take (len - (k + 1)) (drop (at + (k + 1)) ts)
line_next ts at len k t e lt =
    let one : len - k ≡ suc (len - (k + 1)) = omega arith in
    let further : at + k + 1 ≡ at + (k + 1) = omega arith in
    ap₂ take one (drop_at ts (at + k) t e ∙ ap (λ j. t ∷ drop j ts) further)

-- the width from a place on is the width of the token there plus that from the next
pub width_next : (g : LineGaps) (ts : List Lexeme) (at len k i : ℕ) (b s : Option Lexeme) (t : Lexeme) → slice_get ts (at + k) ≡ Some t → i ≤ len → k < i
    → width (i - k) (gaps_from g k b s (take (len - k) (drop (at + k) ts))) (take (len - k) (drop (at + k) ts))
    ≡ gap_of g k b s t + clusters t + width (i - (k + 1)) (gaps_from g (k + 1) s (Some t) (take (len - (k + 1)) (drop (at + (k + 1)) ts))) (take (len - (k + 1)) (drop (at + (k + 1)) ts))
width_next g ts at len k i b s t e le lt =
    let one : i - k ≡ suc (i - (k + 1)) = omega arith in
    ap₂ (λ (n : ℕ) (l : Line). width n (gaps_from g k b s l) l) one (line_next ts at len k t e (omega arith))
