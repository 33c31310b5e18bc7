-- The rest of the print of the lines, piece by piece and line by line.
use Rattle.std.proofs.Common.{◌≡◌, ◌∙◌, ◌+◌, ◌-◌, ◌++◌, ◌<◌, ◌≤◌, ℕ, zero, List, Some, None, length, ap, ap₂, refl, sym, arith, take, drop, replicate, length-append}
use Rattle.std.specs.Prelude.{slice_get}
use Rattle.std.proofs.lemmas.List.{length-replicate}
use Rattle.hcl_tokens.specs.Lexemes.{Lexeme}
use Rattle.hcl_layout.specs.Print.{print, printed_text}
use Rattle.hcl_layout.specs.Inner.Depths.{BalancedFrom, fresh_levels}
use Rattle.hcl_layout.specs.Inner.Laid.{gaps_after, gaps_on, left_after, left_on, shape}
use Rattle.hcl_layout.specs.Inner.Left.{gap_before, token_before}
use Rattle.hcl_layout.specs.Inner.LineGaps.{gaps_from}
use Rattle.hcl_layout.specs.declared.lines.LaidLine.{LaidLine}
use Rattle.hcl_layout.specs.declared.lines.Lines.{Lines}
use Rattle.hcl_layout.proofs.LeftLemmas.{piece_left, start_all}

-- a line that follows
pub left_line : (ts : List Lexeme) (old new : Lines) (l : LaidLine) → gaps_after ts old ≡ gaps_on ts l l.first ++ gaps_after ts new → l.first ≡ old.next → left_after ts old ≡ left_on ts l (gaps_after ts new) l.first
left_line ts old new l e f = ap₂ (λ (gs : List ℕ) (n : ℕ). printed_text gs (drop n ts)) e (sym f)

-- its end
pub left_done : (ts : List Lexeme) (s : Lines) (l : LaidLine) (n : ℕ) → l.end ≤ n → n ≡ s.next → left_on ts l (gaps_after ts s) n ≡ left_after ts s
left_done ts s l n le e =
    let none : l.end - n ≡ zero = omega (arith, le) in
    ap (λ k. printed_text (gaps_from (shape l) (n - l.first) (token_before ts l.first (n - 1)) (token_before ts l.first n) (take k (drop n ts)) ++ gaps_after ts s) (drop n ts)) none
    ∙ ap (λ k. printed_text (gaps_after ts s) (drop k ts)) e

-- a piece
pub left_piece : (ts : List Lexeme) (l : LaidLine) (rest : List ℕ) (n gap : ℕ) (t : Lexeme) → slice_get ts n ≡ Some t → l.first ≤ n → n < l.end → gap ≡ gap_before ts (shape l) l.first n t
    → left_on ts l rest n ≡ (replicate gap 32 ++ t.text) ++ left_on ts l rest (n + 1)
left_piece ts l rest n gap t e le lt g = piece_left ts n l.first l.end (shape l) rest t gap e lt le g

pub piece_len : (xs text rest : List ℕ) (gap : ℕ) → xs ≡ (replicate gap 32 ++ text) ++ rest → length xs ≡ gap + length text + length rest
piece_len xs text rest gap e =
    omega (arith, ap length e, length-append (replicate gap 32 ++ text) rest, length-append (replicate gap 32) text, length-replicate {A = ℕ} gap 32)

-- before the first line
pub left_all : (ts : List Lexeme) (s : Lines) → BalancedFrom 0 ts → s.next ≡ 0 → s.depth ≡ 0 → s.levels ≡ fresh_levels → s.assigns ≡ None → s.comments ≡ None → left_after ts s ≡ print ts
left_all ts s p n d v a b = rw (n, d, v, a, b) (ap (λ g. printed_text g ts) (start_all ts 0 fresh_levels None None p refl refl refl refl))
