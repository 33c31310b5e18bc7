-- The elements that a pop leaves, counted from the end of a list.
use Rattle.std.proofs.Common.{◌≡◌, ◌∙◌, ap, sym, refl, ℕ, suc, zero, ◌-◌, ◌≤◌, List, [], ◌∷◌, ◌++◌, take, length, get_or, reverse, arith}
use Rattle.std.specs.Prelude.{Option, Some, None, option_to_list}
use Rattle.std.proofs.lemmas.List.{reverse-append}

pub popped : {X : Type 0} (old new : List X) (r : Option X) (n : ℕ) → length old ≡ n → old ≡ new ++ option_to_list r → new ≡ take (n - 1) old → (d : ℕ) (c : X) → get_or (reverse new) d c ≡ get_or (reverse old) (suc d) c
popped old new (Some x) n size is rest d c = sym (ap (λ r. get_or r (suc d) c) (ap reverse is ∙ reverse-append new (x ∷ [])))
popped {X} [] new None n size is rest d c = ap (λ r. get_or (reverse r) d c) (rest ∙ nothing (n - 1))
  where
    nothing : (k : ℕ) → take {A = X} k [] ≡ []
    nothing zero = refl
    nothing (suc k) = refl
popped {X} (y ∷ ys) new None n size is rest d c = absurd (omega (arith, size, ap length is, ap length rest, nil new, short (n - 1) (y ∷ ys)))
  where
    nil : (xs : List X) → length (xs ++ []) ≡ length xs
    nil [] = refl
    nil (x ∷ xs) = ap suc (nil xs)

    short : (k : ℕ) (zs : List X) → length (take k zs) ≤ k
    short zero [] = omega arith
    short zero (z ∷ zs) = omega arith
    short (suc k) [] = omega arith
    short (suc k) (z ∷ zs) = omega (arith, short k zs)
