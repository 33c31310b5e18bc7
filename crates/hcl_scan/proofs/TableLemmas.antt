-- A table by byte is right for each byte if a walk along it says so.
use Rattle.std.proofs.Common.{◌≡◌, ℕ, zero, suc, ◌+◌, ◌<◌, ◌&&◌, not, Bool, true, false, List, [], ◌∷◌, length, get_or, refl, sym, ap, subst, ◌∙◌, arith}
use Rattle.hcl_tokens.proofs.BooleanLemmas.{and_true}

abbrev pub same_bool : Bool → Bool → Bool
same_bool true v = v
same_bool false v = not v

equal : (v w : Bool) → same_bool v w ≡ true → v ≡ w
equal true true h = refl
equal true false h = sym h
equal false true h = h
equal false false h = refl

-- the table's entry for a byte agrees with the test, from the byte n on
abbrev pub agrees : (ℕ → Bool) → (ℕ → Bool) → List ℕ → ℕ → Bool
agrees says test [] n = true
agrees says test (t ∷ ts) n = same_bool (says t) (test n) && agrees says test ts (suc n)

module _ (says test : ℕ → Bool) where
  agrees_at : (ts : List ℕ) (n i : ℕ) → agrees says test ts n ≡ true → i < length ts → says (get_or ts i 0) ≡ test (i + n)
  agrees_at [] n i h lt = absurd (omega (arith, lt))
  agrees_at (t ∷ ts) n zero h lt =
      let same : n ≡ 0 + n = omega arith in
      equal (says t) (test n) (and_true _ _ h).0 ∙ ap test same
  agrees_at (t ∷ ts) n (suc i) h lt =
      let next : i + suc n ≡ suc i + n = omega arith in
      agrees_at ts (suc n) i (and_true _ _ h).1 (omega (arith, lt)) ∙ ap test next

  pub in_table : (ts : List ℕ) (b : ℕ) → agrees says test ts 0 ≡ true → length ts ≡ 256 → b < 256 → says (get_or ts b 0) ≡ test b
  in_table ts b h len lt = let same : b + 0 ≡ b = omega arith in agrees_at ts 0 b h (subst (λ n. b < n) (sym len) lt) ∙ ap test same
