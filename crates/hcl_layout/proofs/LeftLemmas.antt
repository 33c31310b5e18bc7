-- The rest of the print, piece by piece.
use Rattle.std.proofs.Common.{◌*◌, ◌≡◌, ◌∙◌, ◌+◌, ◌-◌, ◌++◌, ◌<◌, ◌≤◌, ◌^◌, ℕ, suc, zero, true, false, List, Option, Some, None, length, ap, ap₂, refl, sym, arith, subst, take, drop, replicate}
use Rattle.std.specs.Prelude.{IfSome, nat_lt, slice_get}
use Rattle.std.proofs.lemmas.Bool.Decides.{nat_tests}
use Rattle.hcl_tokens.specs.Balanced.{max_open}
use Rattle.hcl_layout.specs.Inner.Left.{token_before}
use Rattle.std.specs.List.{flat_map}
use Rattle.hcl_tokens.specs.Lexemes.{Lexeme}
use Rattle.hcl_layout.specs.Inner.Depths.{BalancedFrom, fresh_levels}
use Rattle.hcl_layout.specs.Gaps.{clusters, gaps, width}
use Rattle.hcl_layout.specs.Inner.LineGaps.{gap_of, gaps_from, gaps_in, plain_gap}
use Rattle.hcl_layout.specs.Lines.{lines}
use Rattle.hcl_layout.specs.Print.{printed_text}
use Rattle.hcl_layout.specs.Inner.Stream.{comment_stream}
use Rattle.hcl_layout.specs.Inner.LineGaps.{Cell}
use Rattle.hcl_layout.specs.Inner.LineGaps.{LineGaps}
use Rattle.hcl_layout.proofs.LineLemmas.{blank, indented, width_next}
use Rattle.hcl_layout.proofs.StreamLemmas.{gaps_all}
use Rattle.hcl_layout.proofs.SurveyLemmas.{drop_at, token_at}

pub start_all : (ts : List Lexeme) (d : ℕ) (levels : List ℕ) (column comment : Option ℕ) → BalancedFrom 0 ts → d ≡ 0 → levels ≡ fresh_levels → column ≡ None → comment ≡ None
    → flat_map (λ g. g) (comment_stream d levels column comment (lines ts)) ≡ gaps ts
start_all ts d levels column comment p e f g h =
    ap₂ (λ (x : ℕ) (y : List ℕ). flat_map (λ g. g) (comment_stream x y column comment (lines ts))) e f
    ∙ ap₂ (λ (x y : Option ℕ). flat_map (λ g. g) (comment_stream 0 fresh_levels x y (lines ts))) g h ∙ sym (gaps_all ts p)

-- a line's first token has no token before it in that line
pub none_after : (ts : List Lexeme) (at n : ℕ) → n ≤ at → token_before ts at n ≡ None
none_after ts at n le = rw (not_less at n le) refl
  where
    not_less : (a b : ℕ) → b ≤ a → nat_lt a b ≡ false
    not_less a b h = grind (arith, nat_tests)

-- after a token is printed, it is the token before the next place
pub printed_after : (ts : List Lexeme) (start next : ℕ) (t : Lexeme) → slice_get ts next ≡ Some t → start ≤ next → token_before ts start (next + 1) ≡ Some t
printed_after ts start next t e le = rw (less start next le) (ap (slice_get ts) (omega arith) ∙ e)
  where
    less : (a b : ℕ) → a ≤ b → nat_lt a (b + 1) ≡ true
    less a b h = grind (arith, nat_tests)

-- the width from a place of the line on is the width of the token there plus that from the next
pub width_after : (g : LineGaps) (ts : List Lexeme) (at len k i : ℕ) (t : Lexeme) → slice_get ts (at + k) ≡ Some t → i ≤ len → k < i
    → width (i - k) (gaps_from g k (token_before ts at ((at + k) - 1)) (token_before ts at (at + k)) (take (len - k) (drop (at + k) ts))) (take (len - k) (drop (at + k) ts))
    ≡ gap_of g k (token_before ts at ((at + k) - 1)) (token_before ts at (at + k)) t + clusters t
    + width (i - (k + 1)) (gaps_from g (k + 1) (token_before ts at ((at + (k + 1)) - 1)) (token_before ts at (at + (k + 1))) (take (len - (k + 1)) (drop (at + (k + 1)) ts))) (take (len - (k + 1)) (drop (at + (k + 1)) ts))
width_after g ts at len k i t e le lt =
    let b = token_before ts at ((at + k) - 1) in
    let s = token_before ts at (at + k) in
    let rest : List Lexeme = take (len - (k + 1)) (drop (at + (k + 1)) ts) in
    let last : at + k ≡ (at + (k + 1)) - 1 = omega arith in
    let next : (at + k) + 1 ≡ at + (k + 1) = omega arith in
    let there : Some t ≡ token_before ts at (at + (k + 1)) = sym (printed_after ts at (at + k) t e (omega arith)) ∙ ap (token_before ts at) next in
    width_next g ts at len k i b s t e le lt
    ∙ ap₂ (λ (n : ℕ) (u : Option Lexeme). gap_of g k b s t + clusters t + width (i - (k + 1)) (gaps_from g (k + 1) (token_before ts at n) u rest) rest) last there

-- at the front of a line no token of that line is before, so the width from there is the line's
pub width_front : (g : LineGaps) (ts : List Lexeme) (at len i : ℕ)
    → 0 + width (i - 0) (gaps_from g 0 (token_before ts at ((at + 0) - 1)) (token_before ts at (at + 0)) (take (len - 0) (drop (at + 0) ts))) (take (len - 0) (drop (at + 0) ts))
    ≡ width i (gaps_in g (take len (drop at ts))) (take len (drop at ts))
width_front g ts at len i =
    let line : List Lexeme = take len (drop at ts) in
    let b = token_before ts at ((at + 0) - 1) in
    let s = token_before ts at (at + 0) in
    let same : take (len - 0) (drop (at + 0) ts) ≡ line = ap₂ (λ (n m : ℕ). take n (drop m ts)) (omega arith) (omega arith) in
    let whole : i - 0 ≡ i = omega arith in
    zero_plus (width (i - 0) (gaps_from g 0 b s (take (len - 0) (drop (at + 0) ts))) (take (len - 0) (drop (at + 0) ts)))
    ∙ ap₂ (λ (n : ℕ) (xs : List Lexeme). width n (gaps_from g 0 b s xs) xs) whole same
    ∙ ap₂ (λ (x y : Option Lexeme). width i (gaps_from g 0 x y line) line) (none_after ts at ((at + 0) - 1) (omega arith)) (none_after ts at (at + 0) (omega arith))
  where
    zero_plus : (n : ℕ) → 0 + n ≡ n
    zero_plus n = omega arith

suc_is : (k : ℕ) → k + 1 ≡ suc k
suc_is k = omega arith

pub width_none : (n : ℕ) (gs : List ℕ) (line : List Lexeme) → n ≡ 0 → width n gs line ≡ 0
width_none n gs line e = rw e refl

-- the width before a place, and on from there
pub width_known : (g : LineGaps) (ts : List Lexeme) (at len k i : ℕ) → at + len ≤ length ts → k ≤ i → i ≤ len
    → width k (gaps_in g (take len (drop at ts))) (take len (drop at ts))
    + width (i - k) (gaps_from g k (token_before ts at ((at + k) - 1)) (token_before ts at (at + k)) (take (len - k) (drop (at + k) ts))) (take (len - k) (drop (at + k) ts))
    ≡ width i (gaps_in g (take len (drop at ts))) (take len (drop at ts))
width_known g ts at len zero i room le within = width_front g ts at len i
width_known g ts at len (suc k) i room le within =
    let here = token_at ts (at + k) (omega (arith, room, le, within)) in
    let line : List Lexeme = take len (drop at ts) in
    let further : List Lexeme = take (len - (k + 1)) (drop (at + (k + 1)) ts) in
    let all = width_known g ts at len k i room (omega (arith, le)) within in
    let one = width_known g ts at len k (k + 1) room (omega arith) (omega (arith, le, within)) in
    let last = width_after g ts at len k (k + 1) here.0 here.1 (omega (arith, le, within)) (omega arith) in
    let none = width_none ((k + 1) - (k + 1)) (gaps_from g (k + 1) (token_before ts at ((at + (k + 1)) - 1)) (token_before ts at (at + (k + 1))) further) further (omega arith) in
    let next = width_after g ts at len k i here.0 here.1 within (omega (arith, le)) in
    subst (λ n. width n (gaps_in g line) line + width (i - n) (gaps_from g n (token_before ts at ((at + n) - 1)) (token_before ts at (at + n)) (take (len - n) (drop (at + n) ts))) (take (len - n) (drop (at + n) ts)) ≡ width i (gaps_in g line) line)
    (suc_is k) (omega (arith, all, one, last, none, next))

pub piece_left : (ts : List Lexeme) (next start end : ℕ) (set : LineGaps) (rest : List ℕ) (t : Lexeme) (gap : ℕ) → slice_get ts next ≡ Some t → next < end → start ≤ next
    → gap ≡ gap_of set (next - start) (token_before ts start (next - 1)) (token_before ts start next) t
    → printed_text (gaps_from set (next - start) (token_before ts start (next - 1)) (token_before ts start next) (take (end - next) (drop next ts)) ++ rest) (drop next ts)
    ≡ (replicate gap 32 ++ t.text) ++ printed_text (gaps_from set ((next + 1) - start) (token_before ts start ((next + 1) - 1)) (token_before ts start (next + 1)) (take (end - (next + 1)) (drop (next + 1) ts)) ++ rest) (drop (next + 1) ts)
piece_left ts next start end set rest t gap e lt le g =
    let one : end - next ≡ suc (end - (next + 1)) = omega arith in
    let left : List Lexeme = drop (next + 1) ts in
    let b = token_before ts start (next - 1) in
    let s = token_before ts start next in
    let place : (next - start) + 1 ≡ (next + 1) - start = omega arith in
    let last : next ≡ (next + 1) - 1 = omega arith in
    ap₂ (λ (n : ℕ) (xs : List Lexeme). printed_text (gaps_from set (next - start) b s (take n xs) ++ rest) xs) one (drop_at ts next t e)
    ∙ ap (λ k. (replicate k 32 ++ t.text) ++ printed_text (gaps_from set ((next - start) + 1) s (Some t) (take (end - (next + 1)) left) ++ rest) left) (sym g)
    ∙ ap (λ k. (replicate gap 32 ++ t.text) ++ printed_text (gaps_from set k s (Some t) (take (end - (next + 1)) left) ++ rest) left) place
    ∙ ap₂ (λ (n : ℕ) (u : Option Lexeme). (replicate gap 32 ++ t.text) ++ printed_text (gaps_from set ((next + 1) - start) (token_before ts start n) u (take (end - (next + 1)) left) ++ rest) left) last (sym (printed_after ts start next t e le))

pub plain_small : (level : ℕ) (b s : Option Lexeme) (t : Lexeme) → level ≤ max_open → plain_gap level b s t ≤ 2 * max_open
plain_small level b None t low = omega (arith, indented level t)
plain_small level b (Some s) t low = omega (arith, blank b s t)

wider : (c : Option Cell) → IfSome c (λ x. x.gap ≤ 2 ^ 33) → IfSome c (λ x. x.gap ≤ 2 ^ 34)
wider None p = tt
wider (Some c) p = omega (arith, p)
