-- Fronts and margins of texts.
use Rattle.std.specs.Prelude.{ℕ, Bool, List, [], ◌∷◌, nat_eq, reverse, if◌then◌else◌}
use Rattle.std.specs.List.{starts_with}

abbrev pub begins : List ℕ → List ℕ → Bool
begins front text = starts_with nat_eq text front

-- the text without the bytes at its front that pass
abbrev pub without_front : (ℕ → Bool) → List ℕ → List ℕ
without_front passes [] = []
without_front passes (b ∷ bs) = if passes b then without_front passes bs else b ∷ bs

-- the text without the bytes at its end that pass
abbrev pub without_end : (ℕ → Bool) → List ℕ → List ℕ
without_end passes bs = reverse (without_front passes (reverse bs))
