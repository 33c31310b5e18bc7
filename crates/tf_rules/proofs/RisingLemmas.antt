-- Lists whose members have rising numbers, at least `from` and below `to`.
use Rattle.std.proofs.Common.{ℕ, ◌+◌, ◌<◌, ◌≤◌, Bool, true, false, cond, List, [], ◌∷◌, ◌++◌, map, filter, arith}
use Rattle.std.specs.List.{flat_map}
use Rattle.tf_rules.specs.Ordered.{BeforeAll, Ascends}

module _ {X : Type 0} (m : X → ℕ) where
  abbrev pub Up : ℕ → List X → ℕ → Type 0
  Up from [] to = from ≤ to
  Up from (x ∷ xs) to = (from ≤ m x) × Up (m x + 1) xs to

  pub up_wide : (from to : ℕ) (xs : List X) → Up from xs to → from ≤ to
  up_wide from to [] h = h
  up_wide from to (x ∷ xs) h = omega (arith, h.0, up_wide (m x + 1) to xs h.1)

  pub up_from : (from later to : ℕ) (xs : List X) → from ≤ later → Up later xs to → Up from xs to
  up_from from later to [] h r = omega (arith, h, r)
  up_from from later to (x ∷ xs) h r = (omega (arith, h, r.0), r.1)

  pub up_both : (from mid to : ℕ) (xs ys : List X) → Up from xs mid → Up mid ys to → Up from (xs ++ ys) to
  up_both from mid to [] ys h k = up_from from mid to ys h k
  up_both from mid to (x ∷ xs) ys h k = (h.0, up_both (m x + 1) mid to xs ys h.1 k)

  pub up_filter : (p : X → Bool) (from to : ℕ) (xs : List X) → Up from xs to → Up from (filter p xs) to
  up_filter p from to [] h = h
  up_filter p from to (x ∷ xs) h = by (p x) (up_filter p (m x + 1) to xs h.1)
    where
      by : (b : Bool) → Up (m x + 1) (filter p xs) to → Up from (cond b (x ∷ filter p xs) (filter p xs)) to
      by true r = (h.0, r)
      by false r = up_from from (m x + 1) to (filter p xs) (omega (arith, h.0)) r

  up_before : (x : X) (from to : ℕ) (xs : List X) → m x < from → Up from xs to → BeforeAll (λ a b. m a < m b) x xs
  up_before x from to [] h r = tt
  up_before x from to (y ∷ ys) h r = (omega (arith, h, r.0), up_before x (m y + 1) to ys (omega (arith, h, r.0)) r.1)

  pub up_ascends : (from to : ℕ) (xs : List X) → Up from xs to → Ascends (λ a b. m a < m b) xs
  up_ascends from to [] h = tt
  up_ascends from to (x ∷ xs) h = (up_before x (m x + 1) to xs (omega arith) h.1, up_ascends (m x + 1) to xs h.1)

-- the results of each member, at its number
module _ {X Y : Type 0} (m : X → ℕ) (n : Y → ℕ) (g : X → List Y) (each : (x : X) → Up n (m x) (g x) (m x + 1)) where
  pub up_flat : (from to : ℕ) (xs : List X) → Up m from xs to → Up n from (flat_map g xs) to
  up_flat from to [] h = h
  up_flat from to (x ∷ xs) h = up_both n from (m x + 1) to (g x) (flat_map g xs) (up_from n from (m x) (m x + 1) (g x) h.0 (each x)) (up_flat (m x + 1) to xs h.1)

pub up_map : {X Y : Type 0} (n : Y → ℕ) (f : X → Y) (from to : ℕ) (xs : List X) → Up (λ x. n (f x)) from xs to → Up n from (map f xs) to
up_map n f from to [] h = h
up_map n f from to (x ∷ xs) h = (h.0, up_map n f (n (f x) + 1) to xs h.1)
