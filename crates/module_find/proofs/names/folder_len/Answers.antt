use Rattle.std.proofs.Common.{◌≡◌, ◌-◌, ◌<◌, ◌≤◌, ◌==◌, ℕ, List, length, get_or, arith, true, false, not}
use Rattle.std.specs.List.{suffix_len}
use Rattle.std.proofs.lemmas.List.Sums.{suffix_len_is}
use Rattle.std.proofs.lemmas.Bool.Decides.{nat_tests}
use Rattle.module_find.proofs.names.folder_len.Goals as goal

-- after a slash or at the start, and no slash from there on
len_is : (xs : List ℕ) (n : ℕ) → n ≤ length xs → ((k : ℕ) → n ≤ k → k < length xs → get_or xs k 0 ≡ 47 → ⊥) → (0 < n → get_or xs (n - 1) 0 ≡ 47)
    → n ≡ length xs - suffix_len (λ b. not (b == 47)) xs
len_is xs n within no_slash slash =
    let test : (b : ℕ) → (b ≡ 47 → ⊥) → not (b == 47) ≡ true = λ b h. grind (arith, nat_tests) in
    let fails : (b : ℕ) → b ≡ 47 → not (b == 47) ≡ false = λ b h. grind (arith, nat_tests) in
    let len = suffix_len_is (λ b. not (b == 47)) xs n 0 within (λ k low high. test _ (no_slash k low high)) (λ h. fails _ (slash h)) in
    omega (arith, len)

pub returns-else-path-len-ne47 : goal.returns-else-path-len-ne47
returns-else-path-len-ne47 c = len_is _ _ c.loop-len.invariant.within c.loop-len.invariant.no_slash (λ _. c.if-path-len-ne47.false)

pub returns-after-loop-len : goal.returns-after-loop-len
returns-after-loop-len c = len_is _ _ c.loop-len.invariant.within c.loop-len.invariant.no_slash (λ h. absurd (omega arith))
