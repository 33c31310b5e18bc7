-- One column is right for a whole run.
use Rattle.std.proofs.Common.{◌≡◌, ℕ, List, [], ◌∷◌, Option, Some, None, max, ap, ap₂, arith, length, refl}
use Rattle.hcl_layout.specs.Columns.{columns_after, widest}
use Rattle.hcl_layout.specs.Inner.Stream.{next_of}

-- the columns from here on, given the column of the line before
abbrev pub columns_at : Option ℕ → List (Option ℕ) → List (Option ℕ)
columns_at column [] = []
columns_at column (width ∷ rest) = next_of column (width ∷ rest) ∷ columns_at (next_of column (width ∷ rest)) rest

abbrev some : ℕ → Option ℕ
some n = Some n

mutual
  in_run : (before : List (Option ℕ)) (column : ℕ) (xs : List (Option ℕ)) → max (widest before) (widest xs) ≡ column → columns_after before xs ≡ columns_at (Some column) xs
  in_run before column [] e = refl
  in_run before column (None ∷ rest) e = ap (λ l. None ∷ l) (outside (None ∷ before) rest refl)
  in_run before column (Some width ∷ rest) e = ap₂ (λ c l. some c ∷ l) e (in_run (Some width ∷ before) column rest (omega (arith, e)))

  outside : (before xs : List (Option ℕ)) → widest before ≡ 0 → columns_after before xs ≡ columns_at None xs
  outside before [] e = refl
  outside before (None ∷ rest) e = ap (λ l. None ∷ l) (outside (None ∷ before) rest refl)
  outside before (Some width ∷ rest) e = ap₂ (λ c l. some c ∷ l) (omega (arith, e)) (in_run (Some width ∷ before) (max width (widest rest)) rest (omega (arith, e)))

-- outside a run the lines before make no difference
pub before_run : (xs : List (Option ℕ)) → columns_after [] xs ≡ columns_at None xs
before_run xs = outside [] xs refl

-- a column for each line
pub columns_len : (before ws : List (Option ℕ)) → length (columns_after before ws) ≡ length ws
columns_len before [] = refl
columns_len before (None ∷ ws) = omega (arith, columns_len (None ∷ before) ws)
columns_len before (Some w ∷ ws) = omega (arith, columns_len (Some w ∷ before) ws)
