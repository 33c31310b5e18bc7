-- Sorted issues with different keys ascend, and are the ordered list.
use Rattle.std.proofs.Common.{◌≡◌, ◌∙◌, ◌<◌, ◌≤◌, ◌+◌, ap, sym, refl, subst, true≢false, ℕ, suc, zero, Bool, true, false, cond, List, [], ◌∷◌, filter, length, inl, inr, arith, get_or}
use Rattle.std.specs.Prelude.{◌⊎◌, ◌==◌, ◌&&◌, IsPermutation, IsSorted}
use Rattle.std.specs.List.{Contains, sum_by}
use Rattle.std.specs.Ordering.{is_lt, nat_cmp, ordering_then}
use Rattle.std.specs.declared.cmp.Ordering.{Ordering}
use Rattle.std.specs.declared.cmp.Ordering.TheVariants.{Less, Equal, Greater}
use Rattle.std.proofs.lemmas.Bool.{and_parts, and_from, cases_order, eqb-true, eq-eqb, lt-ltb, le-ltb}
use Rattle.std.proofs.lemmas.List.Sorted.{Contains-permutation, IsPermutation-map, IsPermutation-sym, IsPermutation-trans, sum_by-IsPermutation}
use Rattle.std.proofs.lemmas.List.Sums.{sum_by-cons}
use Rattle.tf_rules.specs.Ordered.{Member, SameMembers, BeforeAll, Ascends}
use Rattle.tf_rules.specs.Issues.{Asked, File, Issue, Key, key_of, Precedes, Before, IsReport, issues}
use Rattle.tf_rules.specs.Inner.Entries.{entry_cmp, issue_of, issues_of}
use Rattle.tf_rules.specs.declared.entry.IssueEntry.{IssueEntry}
use Rattle.tf_rules.proofs.ReportLemmas.{in_turn}

-- ---- keys

abbrev pub same_key : Key → Key → Bool
same_key a b = (a.file == b.file) && (a.token == b.token) && (a.rank == b.rank)

-- the keys differ
abbrev pub Differ : Issue → Issue → Type 0
Differ a b = same_key (key_of a) (key_of b) ≡ false

abbrev made : ℕ → ℕ → ℕ → Key
made file token rank = record { file = file; token = token; rank = rank }

is_same : (a b : Key) → same_key a b ≡ true → a ≡ b
is_same a b h =
    let parts = and_parts ((a.file == b.file) && (a.token == b.token)) (a.rank == b.rank) h in
    let front = and_parts (a.file == b.file) (a.token == b.token) parts.0 in
    ap (λ f. made f a.token a.rank) (eqb-true a.file b.file front.0)
    ∙ ap (λ t. made b.file t a.rank) (eqb-true a.token b.token front.1)
    ∙ ap (λ r. made b.file b.token r) (eqb-true a.rank b.rank parts.1)

-- ---- at most one issue for each key

abbrev hit : Key → Issue → ℕ
hit k i = cond (same_key k (key_of i)) 1 0

abbrev hits : Key → List Issue → ℕ
hits k xs = sum_by (hit k) xs

hit_is : (k : Key) (i : Issue) (b : Bool) → same_key k (key_of i) ≡ b → hit k i ≡ cond b 1 0
hit_is k i b e = ap (λ v. cond v 1 0) e

none_hit : (k : Key) (x : Issue) (xs : List Issue) → k ≡ key_of x → BeforeAll Differ x xs → hits k xs ≡ 0
none_hit k x [] e h = refl
none_hit k x (y ∷ ys) e h =
    let first : hit k y ≡ 0 = hit_is k y false (ap (λ j. same_key j (key_of y)) e ∙ h.0) in
    let rest : hits k ys ≡ 0 = none_hit k x ys e h.1 in
    let both : hits k (y ∷ ys) ≡ hit k y + hits k ys = sum_by-cons (hit k) y ys in
    omega arith

few : (xs : List Issue) → Ascends Differ xs → (k : Key) → hits k xs ≤ 1
few [] h k = let none : hits k [] ≡ 0 = refl in omega arith
few (x ∷ xs) h k = by (same_key k (key_of x)) refl (few xs h.1 k)
  where
    both : hits k (x ∷ xs) ≡ hit k x + hits k xs
    both = sum_by-cons (hit k) x xs

    by : (b : Bool) → same_key k (key_of x) ≡ b → hits k xs ≤ 1 → hits k (x ∷ xs) ≤ 1
    by true e rest = let one : hit k x ≡ 1 = hit_is k x true e in let none : hits k xs ≡ 0 = none_hit k x xs (is_same k (key_of x) e) h.0 in omega (arith, both, one, none)
    by false e rest = let none : hit k x ≡ 0 = hit_is k x false e in omega (arith, both, none, rest)

same_self : (a : Key) → same_key a a ≡ true
same_self a = and_from ((a.file == a.file) && (a.token == a.token)) (a.rank == a.rank) (and_from (a.file == a.file) (a.token == a.token) (eq-eqb a.file a.file refl) (eq-eqb a.token a.token refl)) (eq-eqb a.rank a.rank refl)

disjoint_from : (x : Issue) (xs : List Issue) → hits (key_of x) xs ≡ 0 → BeforeAll Differ x xs
disjoint_from x [] h = tt
disjoint_from x (y ∷ ys) h = by (same_key (key_of x) (key_of y)) refl (disjoint_from x ys)
  where
    both : hits (key_of x) (y ∷ ys) ≡ hit (key_of x) y + hits (key_of x) ys
    both = sum_by-cons (hit (key_of x)) y ys

    by : (b : Bool) → same_key (key_of x) (key_of y) ≡ b → (hits (key_of x) ys ≡ 0 → BeforeAll Differ x ys) → BeforeAll Differ x (y ∷ ys)
    by true e rest = let one : hit (key_of x) y ≡ 1 = hit_is (key_of x) y true e in absurd (omega (arith, both, one, h))
    by false e rest = (e, rest (omega (arith, both, h)))

spread : (xs : List Issue) → ((k : Key) → hits k xs ≤ 1) → Ascends Differ xs
spread [] h = tt
spread (x ∷ xs) h =
    let own : hit (key_of x) x ≡ 1 = hit_is (key_of x) x true (same_self (key_of x)) in
    let both : hits (key_of x) (x ∷ xs) ≡ hit (key_of x) x + hits (key_of x) xs = sum_by-cons (hit (key_of x)) x xs in
    let most : hits (key_of x) (x ∷ xs) ≤ 1 = h (key_of x) in (
      disjoint_from x xs (omega (arith, own, both, most)),
      spread xs (λ k. omega (arith, h k, sum_by-cons (hit k) x xs)),
    )

pub differ_permuted : (xs ys : List Issue) → IsPermutation xs ys → Ascends Differ xs → Ascends Differ ys
differ_permuted xs ys p h = spread ys (λ k. omega (arith, few xs h k, sum_by-IsPermutation (hit k) xs ys p))

-- ---- the order of a sort

cmp_less : (m n : ℕ) → m < n → nat_cmp m n ≡ Less
cmp_less m n h = ap (λ b. cond b Less (cond (m == n) Equal Greater)) (lt-ltb m n h)

cmp_equal : (m n : ℕ) → m ≡ n → nat_cmp m n ≡ Equal
cmp_equal m n e = ap (λ b. cond b Less (cond (m == n) Equal Greater)) (le-ltb m n (omega (arith, e))) ∙ ap (λ b. cond b Equal Greater) (eq-eqb m n e)

is_before : (a b : IssueEntry) → is_lt (entry_cmp b a) ≡ false → Differ (issue_of a) (issue_of b) → Before (issue_of a) (issue_of b)
is_before a b first disjoint = by_file (cases_order (key_of (issue_of a)).file (key_of (issue_of b)).file)
  where
    x : Key
    x = key_of (issue_of a)

    y : Key
    y = key_of (issue_of b)

    after : (o : Ordering) → ordering_then (ordering_then (nat_cmp y.file x.file) (nat_cmp y.token x.token)) (nat_cmp y.rank x.rank) ≡ o → is_lt o ≡ true → ⊥
    after o e less = true≢false (sym less ∙ ap is_lt (sym e) ∙ first)

    by_rank : x.file ≡ y.file → x.token ≡ y.token → (x.rank ≡ y.rank) ⊎ ((x.rank < y.rank) ⊎ (y.rank < x.rank)) → Precedes x y
    by_rank f t (inl e) = absurd (true≢false (sym (and_from ((x.file == y.file) && (x.token == y.token)) (x.rank == y.rank) (and_from (x.file == y.file) (x.token == y.token) (eq-eqb x.file y.file f) (eq-eqb x.token y.token t)) (eq-eqb x.rank y.rank e)) ∙ disjoint))
    by_rank f t (inr (inl h)) = inr (f, inr (t, h))
    by_rank f t (inr (inr h)) =
        absurd (after Less (
        ap (λ o. ordering_then (ordering_then o (nat_cmp y.token x.token)) (nat_cmp y.rank x.rank)) (cmp_equal y.file x.file (sym f))
        ∙ ap (λ o. ordering_then o (nat_cmp y.rank x.rank)) (cmp_equal y.token x.token (sym t))
        ∙ cmp_less y.rank x.rank h) refl)

    by_token : x.file ≡ y.file → (x.token ≡ y.token) ⊎ ((x.token < y.token) ⊎ (y.token < x.token)) → Precedes x y
    by_token f (inl e) = by_rank f e (cases_order x.rank y.rank)
    by_token f (inr (inl h)) = inr (f, inl h)
    by_token f (inr (inr h)) =
        absurd (after Less (
        ap (λ o. ordering_then (ordering_then o (nat_cmp y.token x.token)) (nat_cmp y.rank x.rank)) (cmp_equal y.file x.file (sym f))
        ∙ ap (λ o. ordering_then o (nat_cmp y.rank x.rank)) (cmp_less y.token x.token h)) refl)

    by_file : (x.file ≡ y.file) ⊎ ((x.file < y.file) ⊎ (y.file < x.file)) → Precedes x y
    by_file (inl e) = by_token e (cases_order x.token y.token)
    by_file (inr (inl h)) = inl h
    by_file (inr (inr h)) = absurd (after Less (ap (λ o. ordering_then (ordering_then o (nat_cmp y.token x.token)) (nat_cmp y.rank x.rank)) (cmp_less y.file x.file h)) refl)

through : (x y : Issue) (zs : List Issue) → Before x y → BeforeAll Before y zs → BeforeAll Before x zs
through x y [] h k = tt
through x y (z ∷ zs) h k = (in_turn (key_of x) (key_of y) (key_of z) h k.0, through x y zs h k.1)

tail_sorted : (x : IssueEntry) (xs : List IssueEntry) → IsSorted entry_cmp (x ∷ xs) → IsSorted entry_cmp xs
tail_sorted x xs s k d low high =
    let e : suc (k + 1) ≡ suc k + 1 = omega arith in
    ap (λ n. is_lt (entry_cmp (get_or (x ∷ xs) n d) (get_or xs k d))) e ∙ s (suc k) d (omega arith) (omega (arith, high))

sorted_ascends : (xs : List IssueEntry) → IsSorted entry_cmp xs → Ascends Differ (issues_of xs) → Ascends Before (issues_of xs)
sorted_ascends [] s h = tt
sorted_ascends (x ∷ []) s h = (tt, tt)
sorted_ascends (x ∷ y ∷ ys) s h =
    let rest : Ascends Before (issues_of (y ∷ ys)) = sorted_ascends (y ∷ ys) (tail_sorted x (y ∷ ys) s) h.1 in
    let first : Before (issue_of x) (issue_of y) = is_before x y (s 0 x (omega arith) (omega arith)) h.0.0 in
    ((first, through (issue_of x) (issue_of y) (issues_of ys) first rest.0), rest)

-- ---- members

module _ {X : Type 0} where
  contains : (x : X) (xs : List X) → Member x xs → Contains xs x
  contains x [] m = absurd m
  contains x (y ∷ ys) (inl e) = (0, omega arith, sym e)
  contains x (y ∷ ys) (inr m) = let c = contains x ys m in (suc c.0, omega (arith, c.1), c.2)

  member_at : (x : X) (xs : List X) (k : ℕ) → k < length xs → get_or xs k x ≡ x → Member x xs
  member_at x [] k h e = absurd (omega (arith, h))
  member_at x (y ∷ ys) zero h e = inl (sym e)
  member_at x (y ∷ ys) (suc k) h e = inr (member_at x ys k (omega (arith, h)) e)

  permuted : (xs ys : List X) → IsPermutation xs ys → (x : X) → Member x xs → Member x ys
  permuted xs ys p x m = let c = Contains-permutation xs ys x p (contains x xs m) in member_at x ys c.0 c.1 c.2

  pub permuted_members : (xs ys : List X) → IsPermutation xs ys → SameMembers xs ys
  permuted_members xs ys p x = (permuted xs ys p x, permuted ys xs (IsPermutation-sym xs ys p) x)

  module _ (p : X → Bool) where
    kept : (x : X) (xs : List X) → p x ≡ true → Member x xs → Member x (filter p xs)
    kept x [] e m = absurd m
    kept x (y ∷ ys) e (inl same) = let P : Bool → Type 0 = λ b. Member x (cond b (y ∷ filter p ys) (filter p ys)) in subst P (sym (ap p (sym same) ∙ e)) (inl same)
    kept x (y ∷ ys) e (inr m) = by (p y) (kept x ys e m)
      where
        by : (b : Bool) → Member x (filter p ys) → Member x (cond b (y ∷ filter p ys) (filter p ys))
        by true m = inr m
        by false m = m

    of_filter : (x : X) (xs : List X) → Member x (filter p xs) → (p x ≡ true) × Member x xs
    of_filter x [] m = absurd m
    of_filter x (y ∷ ys) m = by (p y) refl (of_filter x ys) m
      where
        by : (b : Bool) → p y ≡ b → (Member x (filter p ys) → (p x ≡ true) × Member x ys) → Member x (cond b (y ∷ filter p ys) (filter p ys)) → (p x ≡ true) × Member x (y ∷ ys)
        by true e rest (inl same) = (ap p same ∙ e, inl same)
        by true e rest (inr n) = let r = rest n in (r.0, inr r.1)
        by false e rest n = let r = rest n in (r.0, inr r.1)

    into_filter : (xs ys : List X) → SameMembers xs ys → (x : X) → Member x (filter p xs) → Member x (filter p ys)
    into_filter xs ys same x m = let r = of_filter x xs m in kept x ys r.0 ((same x).0 r.1)

    pub filter_members : (xs ys : List X) → SameMembers xs ys → SameMembers (filter p xs) (filter p ys)
    filter_members xs ys same x = (into_filter xs ys same x, into_filter ys xs (λ z. ((same z).1, (same z).0)) x)

    module _ (R : X → X → Type 0) where
      filter_before : (x : X) (xs : List X) → BeforeAll R x xs → BeforeAll R x (filter p xs)
      filter_before x [] h = tt
      filter_before x (y ∷ ys) h = by (p y) (filter_before x ys h.1)
        where
          by : (b : Bool) → BeforeAll R x (filter p ys) → BeforeAll R x (cond b (y ∷ filter p ys) (filter p ys))
          by true r = (h.0, r)
          by false r = r

      pub filter_ascends : (xs : List X) → Ascends R xs → Ascends R (filter p xs)
      filter_ascends [] h = tt
      filter_ascends (x ∷ xs) h = by (p x) (filter_ascends xs h.1)
        where
          by : (b : Bool) → Ascends R (filter p xs) → Ascends R (cond b (x ∷ filter p xs) (filter p xs))
          by true r = (filter_before x xs h.0, r)
          by false r = r

-- THE LAW: sorted entries of issues with different keys, without the silenced ones, are the ordered list
pub is_report : (asked : Asked) (files : List File) (p : Issue → Bool) (found : List Issue) (entries sorted : List IssueEntry) → issues asked files ≡ filter p found → Ascends Differ found
    → IsPermutation found (issues_of entries) → IsPermutation entries sorted → IsSorted entry_cmp sorted → IsReport asked files (filter p (issues_of sorted))
is_report asked files p found entries sorted is disjoint listed_issue_of permutation order =
    let moved : IsPermutation found (issues_of sorted) = IsPermutation-trans found (issues_of entries) (issues_of sorted) listed_issue_of (IsPermutation-map issue_of entries sorted permutation) in
    let P : List Issue → Type 0 = λ is. SameMembers is (filter p (issues_of sorted)) in
    record {
      members = subst P (sym is) (filter_members p found (issues_of sorted) (permuted_members found (issues_of sorted) moved));
      ordered = filter_ascends p Before (issues_of sorted) (sorted_ascends sorted order (differ_permuted found (issues_of sorted) moved disjoint));
    }
