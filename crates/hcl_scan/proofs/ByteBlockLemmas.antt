-- A run at the front of a text, block by block.
use Rattle.std.proofs.Common.{◌≡◌, ℕ, ◌+◌, ◌<◌, ◌≤◌, ◌==◌, Bool, true, false, List, ◌++◌, cond, length, take, drop, slice_range, sym, ap, ◌∙◌, arith}
use Rattle.std.specs.List.{prefix_len}
use Rattle.std.proofs.Math.Nat.{add-sub_cancel_left}
use Rattle.std.proofs.lemmas.List.{drop-drop, take-append-drop}
use Rattle.std.proofs.lemmas.List.Folds.{prefix_len-append}
use Rattle.std.proofs.lemmas.Bool.Decides.{nat_tests}
use Rattle.hcl_scan.proofs.SliceLemmas.{slice_len}

differ : (k n : ℕ) → k < n → (k == n) ≡ false
differ k n lt = grind (arith, nat_tests)

agree : (k n : ℕ) → k ≡ n → (k == n) ≡ true
agree k n e = grind (arith, nat_tests)

-- a block of n bytes
module _ (passes : ℕ → Bool) (text : List ℕ) (at n : ℕ) (within : at + n ≤ length text) where
  abbrev block : List ℕ
  block = slice_range text at (at + n)

  size : length block ≡ n
  size = omega (arith, slice_len text at (at + n) (omega arith) within)

  cut : block ++ drop (at + n) text ≡ drop at text
  cut = (λ i. take (add-sub_cancel_left at n i) (drop at text) ++ sym (drop-drop n at text) i) ∙ take-append-drop n (drop at text)

  either : prefix_len passes (drop at text) ≡ cond (prefix_len passes block == n) (n + prefix_len passes (drop (at + n) text)) (prefix_len passes block)
  either = ap (prefix_len passes) (sym cut) ∙ prefix_len-append passes block (drop (at + n) text) ∙ ap (λ m. cond (prefix_len passes block == m) (m + prefix_len passes (drop (at + n) text)) (prefix_len passes block)) size

  -- the run ends in it
  pub run_ends : (k : ℕ) → k ≡ prefix_len passes block → k < n → prefix_len passes (drop at text) ≡ k
  run_ends k e lt = either ∙ ap (λ v. cond v (n + prefix_len passes (drop (at + n) text)) (prefix_len passes block)) (ap (λ m. m == n) (sym e) ∙ differ k n lt) ∙ sym e

  -- the run continues after it
  pub run_goes_on : (k : ℕ) → k ≡ prefix_len passes block → k ≡ n → prefix_len passes (drop at text) ≡ n + prefix_len passes (drop (at + n) text)
  run_goes_on k e same = either ∙ ap (λ v. cond v (n + prefix_len passes (drop (at + n) text)) (prefix_len passes block)) (ap (λ m. m == n) (sym e) ∙ agree k n same)
