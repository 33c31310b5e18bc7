use Rattle.std.proofs.Common.{◌≡◌, ◌∙◌, ◌-◌, ◌≤◌, ℕ, zero, suc, List, [], ◌∷◌, ap, refl, take, arith}
use Rattle.hcl_layout.proofs.writer.block_at.Goals as goal

front_of : (n m : ℕ) (xs : List ℕ) → n ≤ m → take n (take m xs) ≡ take n xs
front_of zero m xs le = refl
front_of (suc n) zero xs le = absurd (omega arith)
front_of (suc n) (suc m) [] le = refl
front_of (suc n) (suc m) (x ∷ xs) le = ap (λ l. x ∷ l) (front_of n m xs (omega arith))

pub returns : goal.returns
returns c =
    let short : c.args.stretch.end - c.args.stretch.start ≤ 32 = omega (arith, c.requires.short) in
    ap (take (c.args.stretch.end - c.args.stretch.start)) (c.in-Some.ensures.cases.same ∙ ap (take 32) c.split_at.ensures.back)
    ∙ front_of (c.args.stretch.end - c.args.stretch.start) 32 _ short
