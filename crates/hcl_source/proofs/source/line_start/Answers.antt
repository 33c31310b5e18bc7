use Rattle.std.proofs.Common.{◌≡◌, ◌-◌, ◌<◌, ◌≤◌, ◌==◌, ℕ, List, length, drop, get_or, ap, arith, true, false, not}
use Rattle.std.specs.List.{after_last, suffix_len}
use Rattle.std.proofs.lemmas.List.Sums.{suffix_len_is}
use Rattle.std.proofs.lemmas.Bool.Decides.{nat_tests}
use Rattle.hcl_source.proofs.source.line_start.Goals as goal

-- a text without LF, after an LF or at the start, is the text after the last LF
drop_is : (xs : List ℕ) (n : ℕ) → n ≤ length xs → ((k : ℕ) → n ≤ k → k < length xs → get_or xs k 0 ≡ 10 → ⊥) → (0 < n → get_or xs (n - 1) 0 ≡ 10) → drop n xs ≡ after_last (λ b. b == 10) xs
drop_is xs n within no_lf after_lf =
    let test : (b : ℕ) → (b ≡ 10 → ⊥) → not (b == 10) ≡ true = λ b h. grind (arith, nat_tests) in
    let fails : (b : ℕ) → b ≡ 10 → not (b == 10) ≡ false = λ b h. grind (arith, nat_tests) in
    let len = suffix_len_is (λ b. not (b == 10)) xs n 0 within (λ k low high. test _ (no_lf k low high)) (λ h. fails _ (after_lf h)) in
    let e : n ≡ length xs - suffix_len (λ b. not (b == 10)) xs = omega (arith, len) in
    ap (λ m. drop m xs) e

pub returns-else-bytes-start-ne10-clause-start : goal.returns-else-bytes-start-ne10-clause-start
returns-else-bytes-start-ne10-clause-start c = drop_is _ _ c.loop-start.invariant.within c.loop-start.invariant.no_lf (λ _. c.if-bytes-start-ne10.false)

pub returns-after-loop-start-clause-start : goal.returns-after-loop-start-clause-start
returns-after-loop-start-clause-start c = drop_is _ _ c.loop-start.invariant.within c.loop-start.invariant.no_lf (λ h. absurd (omega arith))
