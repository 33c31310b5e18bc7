-- Lines that end in a text, block by block.
use Rattle.std.proofs.Common.{◌≡◌, ◌∙◌, ◌+◌, ◌-◌, ◌≤◌, ap, refl, ℕ, suc, zero, List, [], ◌∷◌, length, take, drop, arith}
use Rattle.std.specs.Prelude.{◌==◌, count_by}
use Rattle.std.proofs.Math.Seq.{take-add}
use Rattle.std.proofs.lemmas.List.Sums.{count_by-le-length, sum_by-append}

pub block_more : (bytes : List ℕ) (from n count block : ℕ) → count ≡ count_by (λ b. b == 10) (take from bytes) → block ≡ count_by (λ b. b == 10) (take n (drop from bytes))
    → count + block ≡ count_by (λ b. b == 10) (take (from + n) bytes)
block_more bytes from n count block is counted =
    let sum : count_by (λ b. b == 10) (take (from + n) bytes) ≡ count_by (λ b. b == 10) (take from bytes) + count_by (λ b. b == 10) (take n (drop from bytes)) =
    ap (count_by (λ b. b == 10)) (take-add from n bytes) ∙ sum_by-append _ (take from bytes) (take n (drop from bytes)) in
    omega (arith, is, counted, sum)

take_few : (n : ℕ) (bytes : List ℕ) → length (take n bytes) ≤ n
take_few zero bytes = omega arith
take_few (suc n) [] = omega arith
take_few (suc n) (b ∷ bytes) = omega (arith, take_few n bytes)

pub ends_few : (bytes : List ℕ) (n count : ℕ) → count ≡ count_by (λ b. b == 10) (take n bytes) → count ≤ n
ends_few bytes n count is = omega (arith, is, count_by-le-length (λ b. b == 10) (take n bytes), take_few n bytes)

all_taken : (n : ℕ) (bytes : List ℕ) → length bytes ≤ n → take n bytes ≡ bytes
all_taken zero [] h = refl
all_taken zero (b ∷ bytes) h = absurd (omega (arith, h))
all_taken (suc n) [] h = refl
all_taken (suc n) (b ∷ bytes) h = ap (λ r. b ∷ r) (all_taken n bytes (omega (arith, h)))

pub rest_more : (bytes : List ℕ) (from count rest : ℕ) → count ≡ count_by (λ b. b == 10) (take from bytes) → rest ≡ count_by (λ b. b == 10) (take (length bytes - from) (drop from bytes))
    → count + rest ≡ count_by (λ b. b == 10) bytes
rest_more bytes from count rest is counted =
    block_more bytes from (length bytes - from) count rest is counted ∙ ap (count_by (λ b. b == 10)) (all_taken (from + (length bytes - from)) bytes (omega arith))
