-- Issues that are pushed one after another.
use Rattle.std.proofs.Common.{◌≡◌, ◌∙◌, ap, sym, refl, ℕ, ◌+◌, ◌<◌, ◌≤◌, Bool, true, false, cond, List, [], ◌∷◌, ◌++◌, append_assoc, map, drop, take, length, get_or}
use Rattle.std.specs.Prelude.{filter, slice_get, Some}
use Rattle.std.specs.List.{flat_map}
use Rattle.std.proofs.lemmas.Grind.{flat_map-append}
use Rattle.std.proofs.lemmas.List.{append-nil, drop_all, take_all, take_more}
use Rattle.std.proofs.lemmas.List.Folds.{flat_map-map}
use Rattle.hcl_grammar.proofs.NumberedLemmas.{drop_at}
use Rattle.tf_rules.proofs.FindingLemmas.{map-flat_map}

-- ---- a loop that pushes a list for each element

module _ {A B : Type 0} (f : A → List B) (xs : List A) where
  one_more : (i : ℕ) (x : A) → i < length xs → x ≡ get_or xs i x → flat_map f (take (i + 1) xs) ≡ flat_map f (take i xs) ++ f x
  one_more i x less at =
      ap (flat_map f) (take_more xs i x less ∙ ap (λ y. take i xs ++ y ∷ []) (sym at))
      ∙ flat_map-append f (take i xs) (x ∷ [])
      ∙ ap (λ r. flat_map f (take i xs) ++ r) (append-nil (f x))

  pub put_more : (i : ℕ) (x : A) (base old new : List B) → i < length xs → x ≡ get_or xs i x → old ≡ base ++ flat_map f (take i xs) → new ≡ old ++ f x → new ≡ base ++ flat_map f (take (i + 1) xs)
  put_more i x base old new less at so_far more =
      more
      ∙ ap (λ r. r ++ f x) so_far
      ∙ append_assoc base (flat_map f (take i xs)) (f x)
      ∙ ap (λ r. base ++ r) (sym (one_more i x less at))

  pub put_all : (i : ℕ) (base new : List B) → length xs ≤ i → new ≡ base ++ flat_map f (take i xs) → new ≡ base ++ flat_map f xs
  put_all i base new past so_far = so_far ∙ ap (λ ys. base ++ flat_map f ys) (take_all i xs past)

-- ---- lists pushed one after another

pub put_before : {X : Type 0} (old new xs rest : List X) → new ≡ old ++ xs → new ++ rest ≡ old ++ (xs ++ rest)
put_before old new xs rest e = ap (λ l. l ++ rest) e ∙ append_assoc old xs rest

-- ---- the list that was pushed

pub put_map : {A B C D : Type 0} (g : B → List C) (k : A → B) (h : C → D) (xs : List A) → flat_map (λ x. map h (g (k x))) xs ≡ map h (flat_map g (map k xs))
put_map g k h xs = sym (ap (map h) (flat_map-map g k xs) ∙ map-flat_map h (λ x. g (k x)) xs)

pub put_each : {A B C : Type 0} (g : B → C) (k : A → B) (xs : List A) → flat_map (λ x. g (k x) ∷ []) xs ≡ map g (map k xs)
put_each g k [] = refl
put_each g k (x ∷ xs) = ap (λ r. g (k x) ∷ r) (put_each g k xs)

pub put_passing : {A B : Type 0} (p : A → Bool) (f : A → List B) (xs : List A) → flat_map (λ x. cond (p x) (f x) []) xs ≡ flat_map f (filter p xs)
put_passing p f [] = refl
put_passing p f (x ∷ xs) = by (p x) (put_passing p f xs)
  where
    by : (b : Bool) → flat_map (λ y. cond (p y) (f y) []) xs ≡ flat_map f (filter p xs) → cond b (f x) [] ++ flat_map (λ y. cond (p y) (f y) []) xs ≡ flat_map f (cond b (x ∷ filter p xs) (filter p xs))
    by true h = ap (λ r. f x ++ r) h
    by false h = h

-- ---- a loop that copies each element

module _ {X : Type 0} (xs : List X) (i : ℕ) where
  pub one_taken : (x y : X) (old new : List X) → slice_get xs i ≡ Some y → x ≡ y → new ≡ old ++ x ∷ [] → old ++ drop i xs ≡ xs → new ++ drop (i + 1) xs ≡ xs
  one_taken x y old new at is pushed h =
      ap (λ l. l ++ drop (i + 1) xs) (pushed ∙ ap (λ z. old ++ z ∷ []) is)
      ∙ append_assoc old (y ∷ []) (drop (i + 1) xs)
      ∙ ap (λ l. old ++ l) (sym (drop_at xs i y at))
      ∙ h

  pub all_taken : (old : List X) → length xs ≤ i → old ++ drop i xs ≡ xs → old ≡ xs
  all_taken old past h = sym (append-nil old) ∙ ap (λ l. old ++ l) (sym (drop_all i xs past)) ∙ h
