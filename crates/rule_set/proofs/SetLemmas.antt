-- Flags of two sets, joined one by one.
use Rattle.std.proofs.Common.{◌≡◌, ◌∙◌, refl, sym, subst, ℕ, ◌+◌, ◌<◌, Bool, false, true, List, length, length-set, get_or, set, arith, inl, inr}
use Rattle.std.specs.Prelude.{◌||◌, ◌⊎◌}
use Rattle.std.proofs.lemmas.Bool.{cases_eq}
use Rattle.std.proofs.lemmas.List.{get_or-set_same, get_or-set_other}

-- the flags before a number are made of those of two lists
pub record AreJoined (f : Bool → Bool → Bool) (a b held : List Bool) (n : ℕ) : Type 0 where
  pub long : length held ≡ 10
  pub joined : (k : ℕ) → k < n → get_or held k false ≡ f (get_or a k false) (get_or b k false)

module _ (f : Bool → Bool → Bool) (a b held : List Bool) (n : ℕ) (v : Bool) (within : n < 10) (is : v ≡ f (get_or a n false) (get_or b n false)) (so_far : AreJoined f a b held n) where
  at : (k : ℕ) → k < n + 1 → get_or (set held n v) k false ≡ f (get_or a k false) (get_or b k false)
  at k less = by (cases_eq k n)
    where
      by : (k ≡ n) ⊎ (k ≡ n → ⊥) → get_or (set held n v) k false ≡ f (get_or a k false) (get_or b k false)
      by (inl e) = let P : ℕ → Type 0 = λ j. get_or (set held n v) j false ≡ f (get_or a j false) (get_or b j false) in subst P (sym e) (get_or-set_same held n v false (omega (arith, within, so_far.long)) ∙ is)
      by (inr other) = get_or-set_other held n k v false other ∙ so_far.joined k (omega (arith, less, other))

  pub joined_more : AreJoined f a b (set held n v) (n + 1)
  joined_more = record { long = length-set held n v ∙ so_far.long; joined = at }

-- ---- any of ten flags

or_assoc : (a b c : Bool) → ((a || b) || c) ≡ (a || (b || c))
or_assoc true b c = refl
or_assoc false b c = refl

or_false : (b : Bool) → (b || false) ≡ b
or_false true = refl
or_false false = refl

pub regrouped : (a b c d e f g h i j : Bool) → (((((((((a || b) || c) || d) || e) || f) || g) || h) || i) || j) ≡ (a || (b || (c || (d || (e || (f || (g || (h || (i || (j || false))))))))))
regrouped a b c d e f g h i j = simp (or_assoc, or_false)
