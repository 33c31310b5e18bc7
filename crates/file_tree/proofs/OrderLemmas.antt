-- The found names, sorted and each once.
use Rattle.std.proofs.Common.{◌≡◌, ◌∙◌, ◌<◌, ◌+◌, ◌⊎◌, ℕ, zero, suc, Bool, false, List, [], ◌∷◌, Option, Some, None, Ordering, Less, Equal, Greater, IsPermutation, IsSorted, Contains, ap, arith, bytes_eq, get_or, inl, inr, is_lt, length, nat_cmp, refl, subst, sym, true≢false}
use Rattle.std.specs.Option.{option_cmp}
use Rattle.std.specs.Ordering.{ordering_then}
use Rattle.std.specs.Cmp.Lexicographic.{on_texts, on_texts_equal, slice_cmp, texts_ties}
use Rattle.std.specs.List.{dedup, dedup_from}
use Rattle.std.proofs.lemmas.Bool.{cond_both}
use Rattle.std.proofs.lemmas.Cmp.{nat_list_cmp_total, tied_itself}
use Rattle.std.proofs.lemmas.List.Kept.{Any-dedup, Contains-from_dedup, IsStrictlySortedBy-dedup}
use Rattle.std.proofs.lemmas.List.Sorted.{Contains-permutation, IsPermutation-sym}
use Rattle.std.proofs.lemmas.Slice.Eq.{bytes_eq-Decides}
use Rattle.file_tree.specs.Files.{Name}
use Rattle.file_tree.specs.Ordered.{IsFound, Orders}
use Rattle.file_tree.specs.declared.fault.TreeFault.{TreeFault}
use Rattle.file_tree.specs.declared.walk.Found.{Found}
use Rattle.file_tree.specs.declared.walk.FoundFile.{FoundFile}

abbrev pub same_name : Found → Found → Bool
same_name f g = bytes_eq f.name.items g.name.items

abbrev pub by_name : Found → Found → Ordering
by_name f g = slice_cmp nat_cmp f.name.items g.name.items

-- of two with one name, the first has no fault if the second has none
abbrev pub Low : Found → Found → Type 0
Low f g = f.name.items ≡ g.name.items → g.fault ≡ None → f.fault ≡ None

-- in this one and the list after it, each is low before the next
abbrev Chain : Found → List Found → Type 0
Chain p [] = Unit {0}
Chain p (x ∷ xs) = Low p x × Chain x xs

pub cons_cases : {X : Type 0} (x z : X) (xs : List X) → Contains (x ∷ xs) z → (x ≡ z) ⊎ Contains xs z
cons_cases x z xs c = by c.0 c.1 c.2
  where
    by : (k : ℕ) → k < length (x ∷ xs) → get_or (x ∷ xs) k z ≡ z → (x ≡ z) ⊎ Contains xs z
    by zero within is = inl is
    by (suc k) within is = inr (k, omega arith, is)

pub none_in : {X : Type 0} (x : X) → Contains [] x → ⊥
none_in x c = omega (arith, c.1)

found_later : (k : Found) (xs : List Found) (name : Name) → IsFound xs name → IsFound (k ∷ xs) name
found_later k xs name h = let within : h.1.0 < length xs = h.1.1 in (h.0, (suc h.1.0, omega arith, h.1.2), h.2, h.3)

-- this one has the name, and no fault; or the found one is still to come
abbrev Comes : Found → List Found → Found → Type 0
Comes k xs z = ((k.name.items ≡ z.name.items) × (k.fault ≡ None)) ⊎ Contains xs z

comes_here : (x z : Found) (xs : List Found) → z.fault ≡ None → (x ≡ z) ⊎ Contains xs z → Comes x xs z
comes_here x z xs none (inl e) = inl (ap (λ (f : Found). f.name.items) e, ap (λ (f : Found). f.fault) e ∙ none)
comes_here x z xs none (inr c) = inr c

comes_skip : (k x z : Found) (xs : List Found) → x.name.items ≡ k.name.items → (x.fault ≡ None → k.fault ≡ None) → Comes x xs z → Comes k xs z
comes_skip k x z xs is lower (inl g) = inl (sym is ∙ g.0, lower g.1)
comes_skip k x z xs is lower (inr c) = inr c

comes_dropped : (k x z : Found) (xs : List Found) → x.name.items ≡ k.name.items → (x.fault ≡ None → k.fault ≡ None) → z.fault ≡ None → Comes k (x ∷ xs) z → Comes k xs z
comes_dropped k x z xs is lower none (inl g) = inl g
comes_dropped k x z xs is lower none (inr c) = comes_skip k x z xs is lower (comes_here x z xs none (cons_cases x z xs c))

found_kept : (k x z : Found) (xs l : List Found) → z.fault ≡ None → (Comes x xs z → IsFound l z.name.items) → Comes k (x ∷ xs) z → IsFound (k ∷ l) z.name.items
found_kept k x z xs l none rest (inl g) = (k, (0, omega arith, refl), g.0, g.1)
found_kept k x z xs l none rest (inr c) = found_later k l z.name.items (rest (comes_here x z xs none (cons_cases x z xs c)))

-- k is the last one kept, p the last one seen
kept_from : (xs : List Found) (k p z : Found) → Chain p xs → p.name.items ≡ k.name.items → (p.fault ≡ None → k.fault ≡ None) → Comes k xs z → z.fault ≡ None
    → IsFound (dedup_from same_name k xs) z.name.items
kept_from [] k p z chain same low (inl h) none = (k, (0, omega arith, refl), h.0, h.1)
kept_from [] k p z chain same low (inr c) none = absurd (none_in z c)
kept_from (x ∷ xs) k p z chain same low h none =
    cond_both (same_name x k) (dedup_from same_name k xs) (k ∷ dedup_from same_name x xs) (λ l. IsFound l z.name.items)
    (λ e.
    let is : x.name.items ≡ k.name.items = (bytes_eq-Decides x.name.items k.name.items).0 e in
    let lower : x.fault ≡ None → k.fault ≡ None = λ n. low (chain.0 (same ∙ sym is) n) in
    kept_from xs k x z chain.1 is lower (comes_dropped k x z xs is lower none h) none)
    (λ e. found_kept k x z xs (dedup_from same_name x xs) none (λ g. kept_from xs x x z chain.1 refl (λ n. n) g none) h)

kept_all : (xs : List Found) (z : Found) → ((k : ℕ) (d : Found) → k + 1 < length xs → Low (get_or xs k d) (get_or xs (k + 1) d)) → Contains xs z → z.fault ≡ None
    → IsFound (dedup same_name xs) z.name.items
kept_all [] z low c none = absurd (none_in z c)
kept_all (x ∷ xs) z low c none = kept_from xs x x z (chain_from x xs low) refl (λ n. n) (comes_here x z xs none (cons_cases x z xs c)) none
  where
    next : (x : Found) (xs : List Found) → ((k : ℕ) (d : Found) → k + 1 < length (x ∷ xs) → Low (get_or (x ∷ xs) k d) (get_or (x ∷ xs) (k + 1) d))
        → (k : ℕ) (d : Found) → k + 1 < length xs → Low (get_or xs k d) (get_or xs (k + 1) d)
    next x xs low k d within =
        let e : suc k + 1 ≡ suc (k + 1) = omega arith in
        subst (λ n. Low (get_or (x ∷ xs) (suc k) d) (get_or (x ∷ xs) n d)) e (low (suc k) d (omega arith))

    chain_from : (p : Found) (xs : List Found) → ((k : ℕ) (d : Found) → k + 1 < length (p ∷ xs) → Low (get_or (p ∷ xs) k d) (get_or (p ∷ xs) (k + 1) d)) → Chain p xs
    chain_from p [] low = tt
    chain_from p (x ∷ xs) low = (low 0 p (omega arith), chain_from x xs (next p (x ∷ xs) low))

-- ---- sorted by name, and then by fault: without one first

lt_first : (o p : Ordering) → is_lt (ordering_then o p) ≡ false → is_lt o ≡ false
lt_first Less p h = h
lt_first Equal p h = refl
lt_first Greater p h = refl

lt_second : (o p : Ordering) → o ≡ Equal → is_lt (ordering_then o p) ≡ false → is_lt p ≡ false
lt_second o p e h = subst (λ x. is_lt (ordering_then x p) ≡ false) e h

module _ (R : TreeFault → TreeFault → Ordering) (S : FoundFile → FoundFile → Ordering) where
  none_first : (f g : Option TreeFault) → is_lt (option_cmp R g f) ≡ false → g ≡ None → f ≡ None
  none_first None g h e = refl
  none_first (Some x) None h e = absurd (true≢false h)
  none_first (Some x) (Some y) h e = absurd (no e)
    where
      no : Some y ≡ None → ⊥
      no q = cc

  low_from : (f g : Found) → is_lt (ordering_then (by_name g f) (ordering_then (option_cmp R g.fault f.fault) (option_cmp S g.file f.file))) ≡ false → Low f g
  low_from f g h same none =
      none_first f.fault g.fault
      (lt_first (option_cmp R g.fault f.fault) (option_cmp S g.file f.file)
      (lt_second (by_name g f) (ordering_then (option_cmp R g.fault f.fault) (option_cmp S g.file f.file))
      (subst (λ n. slice_cmp nat_cmp n f.name.items ≡ Equal) same (tied_itself nat_list_cmp_total f.name.items)) h))
      none

  pub orders : (found sorted ordered : List Found) → IsPermutation found sorted → IsSorted (λ f g. ordering_then (by_name f g) (ordering_then (option_cmp R f.fault g.fault) (option_cmp S f.file g.file))) sorted
      → ordered ≡ dedup same_name sorted → Orders found ordered
  orders found sorted ordered moved up is = subst (λ l. Orders found l) (sym is) (record {
    rises = IsStrictlySortedBy-dedup (on_texts (λ (f : Found). f.name.items)) (λ f g. texts_ties f.name.items g.name.items) sorted
        (λ k d least within. lt_first _ _ (up k d least within));
    only = λ f c. Contains-permutation sorted found f (IsPermutation-sym found sorted moved) (Contains-from_dedup same_name sorted f c);
    kept = λ name h.
        subst (λ n. IsFound (dedup same_name sorted) n) h.2
        (kept_all sorted h.0 (λ k d within. low_from (get_or sorted k d) (get_or sorted (k + 1) d) (up k d (omega arith) within)) (Contains-permutation found sorted h.0 moved h.1) h.3);
    named = λ name h.
        let a = Any-dedup (on_texts_equal (λ (f : Found). f.name.items)) sorted h.0 (Contains-permutation found sorted h.0 moved h.1) in
        (a.1, (a.0, a.2, a.3), sym ((bytes_eq-Decides h.0.name.items a.1.name.items).0 a.4) ∙ h.2);
  })
