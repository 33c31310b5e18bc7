-- A marker line is found at the same place, whatever comes after it.
use Rattle.std.proofs.Common.{◌≡◌, ℕ, ◌+◌, ◌-◌, ◌<◌, ◌≤◌, ◌&&◌, ◌==◌, not, Bool, true, false, cond, List, [], ◌∷◌, ◌++◌, length, take, drop, get_or, ◌⊎◌, inl, inr, ⊎_elim, refl, sym, ap, ◌∙◌, arith, length-append, length-drop, append_assoc, get_or-take, get_or-drop, length-take-le}
use Rattle.std.proofs.Math.Numerals.{one-add}
use Rattle.std.specs.List.{list_all, prefix_len}
use Rattle.std.proofs.lemmas.Bool.Decides.{nat_tests}
use Rattle.std.proofs.lemmas.List.{take-append-drop, drop-drop, drop-append-le, drop-take}
use Rattle.std.proofs.lemmas.List.Sums.{prefix_len_passes, prefix_len_stops, prefix_len_is, prefix_len-le-length}
use Rattle.std.proofs.Math.Seq.{take-append_seam, drop-append_seam}
use Rattle.hcl_tokens.specs.Spelling.{is_blank, starts}
use Rattle.hcl_tokens.specs.Scans.{hides, skip_blanks, at_line_end, closer_len, is_marker_line, IsFirstMarkerLine}
use Rattle.hcl_tokens.proofs.BooleanLemmas.{and_true}
use Rattle.hcl_scan.proofs.CommentTextLemmas.{starts_split}
use Rattle.hcl_scan.proofs.TextStartLemmas.{starts_so}

abbrev is_lf_free : List ℕ → Bool
is_lf_free m = list_all (λ b. not (b == 10)) m

drop_more : (n : ℕ) (b : ℕ) (l : List ℕ) → drop (1 + n) (b ∷ l) ≡ drop n l
drop_more n b l = rw one-add refl

skip_blank : (b : ℕ) (l : List ℕ) → is_blank b ≡ true → skip_blanks (b ∷ l) ≡ skip_blanks l
skip_blank b l h = ap (λ c. drop (cond c (1 + prefix_len is_blank l) 0) (b ∷ l)) h ∙ drop_more (prefix_len is_blank l) b l

skip_none : (b : ℕ) (l : List ℕ) → is_blank b ≡ false → skip_blanks (b ∷ l) ≡ b ∷ l
skip_none b l h = ap (λ c. drop (cond c (1 + prefix_len is_blank l) 0) (b ∷ l)) h

either : (v : Bool) → (v ≡ true) ⊎ (v ≡ false)
either true = inl refl
either false = inr refl

-- the end of a line depends on that line alone
line_end : (pre x y : List ℕ) → at_line_end (skip_blanks (pre ++ 10 ∷ x)) ≡ at_line_end (skip_blanks (pre ++ 10 ∷ y))
line_end [] x y = refl
line_end (b ∷ pre) x y = ⊎_elim
    (λ h. ap at_line_end (skip_blank b (pre ++ 10 ∷ x) h) ∙ line_end pre x y ∙ ap at_line_end (sym (skip_blank b (pre ++ 10 ∷ y) h)))
    (λ h. ap at_line_end (skip_none b (pre ++ 10 ∷ x) h) ∙ same pre ∙ ap at_line_end (sym (skip_none b (pre ++ 10 ∷ y) h)))
    (either (is_blank b))
  where
    same : (pre : List ℕ) → at_line_end (b ∷ (pre ++ 10 ∷ x)) ≡ at_line_end (b ∷ (pre ++ 10 ∷ y))
    same [] = refl
    same (c ∷ pre) = refl

abbrev marked : List ℕ → List ℕ → Bool
marked m l = starts l m && at_line_end (skip_blanks (drop (length m) l))

drop_length : (c b : ℕ) (m l : List ℕ) → drop (length (c ∷ m)) (b ∷ l) ≡ drop (length m) l
drop_length c b m l = let e : length (c ∷ m) ≡ 1 + length m = omega arith in ap (λ n. drop n (b ∷ l)) e ∙ drop_more (length m) b l

same_and : (v : Bool) (a b a' b' : Bool) → (a && b) ≡ (a' && b') → ((v && a) && b) ≡ ((v && a') && b')
same_and true a b a' b' h = h
same_and false a b a' b' h = refl

not_lf : (c : ℕ) → not (c == 10) ≡ true → (10 == c) ≡ false
not_lf c h = grind (arith, nat_tests)

marked_only : (m pre x y : List ℕ) → is_lf_free m ≡ true → marked m (pre ++ 10 ∷ x) ≡ marked m (pre ++ 10 ∷ y)
marked_only [] pre x y free = line_end pre x y
marked_only (c ∷ m) [] x y free =
    let e = not_lf c (and_true (not (c == 10)) (is_lf_free m) free).0 in
    (λ i. (e i && starts x m) && at_line_end (skip_blanks (drop (length (c ∷ m)) (10 ∷ x)))) ∙ sym (λ i. (e i && starts y m) && at_line_end (skip_blanks (drop (length (c ∷ m)) (10 ∷ y))))
marked_only (c ∷ m) (b ∷ pre) x y free =
    let rec = marked_only m pre x y (and_true (not (c == 10)) (is_lf_free m) free).1 in
    (λ i. ((b == c) && starts (pre ++ 10 ∷ x) m) && at_line_end (skip_blanks (drop_length c b m (pre ++ 10 ∷ x) i)))
    ∙ same_and (b == c) (starts (pre ++ 10 ∷ x) m) (at_line_end (skip_blanks (drop (length m) (pre ++ 10 ∷ x)))) (starts (pre ++ 10 ∷ y) m) (at_line_end (skip_blanks (drop (length m) (pre ++ 10 ∷ y)))) rec
    ∙ sym (λ i. ((b == c) && starts (pre ++ 10 ∷ y) m) && at_line_end (skip_blanks (drop_length c b m (pre ++ 10 ∷ y) i)))

-- whether a line is a marker's depends on that line alone
skipped_only : (m pre x y : List ℕ) → is_lf_free m ≡ true → marked m (skip_blanks (pre ++ 10 ∷ x)) ≡ marked m (skip_blanks (pre ++ 10 ∷ y))
skipped_only m [] x y free = marked_only m [] x y free
skipped_only m (b ∷ pre) x y free = ⊎_elim
    (λ h. ap (marked m) (skip_blank b (pre ++ 10 ∷ x) h) ∙ skipped_only m pre x y free ∙ ap (marked m) (sym (skip_blank b (pre ++ 10 ∷ y) h)))
    (λ h. ap (marked m) (skip_none b (pre ++ 10 ∷ x) h) ∙ marked_only m (b ∷ pre) x y free ∙ ap (marked m) (sym (skip_none b (pre ++ 10 ∷ y) h)))
    (either (is_blank b))

marked_is : (m t : List ℕ) → is_marker_line m t ≡ marked m (skip_blanks t)
marked_is m t = ap (λ l. starts (skip_blanks t) m && at_line_end (skip_blanks l)) (split_drop (prefix_len is_blank t) (length m) t)
  where
    split_drop : (a b : ℕ) (l : List ℕ) → drop (a + b) l ≡ drop b (drop a l)
    split_drop a b l = sym (drop-drop b a l)

pub line_only : (m pre x y : List ℕ) → is_lf_free m ≡ true → is_marker_line m (pre ++ 10 ∷ x) ≡ is_marker_line m (pre ++ 10 ∷ y)
line_only m pre x y free = marked_is m (pre ++ 10 ∷ x) ∙ skipped_only m pre x y free ∙ sym (marked_is m (pre ++ 10 ∷ y))

-- a marker line with other text after it
record Stands (m t after : List ℕ) : Type 0 where
  marked : is_marker_line m (take (closer_len m t) t ++ after) ≡ true
  hidden : hides m (take (closer_len m t) t ++ after) ≡ record { closer = take (closer_len m t) t; after = after }

stands : (m t after : List ℕ) → 0 < length m → is_marker_line m t ≡ true → at_line_end (skip_blanks after) ≡ true → Stands m t after
stands m t after some line ends = record {
  marked = (λ i. starts (skipped i) m && at_line_end (skip_blanks (drop (len_is i) xs))) ∙ (λ i. starts_so m after i && at_line_end (skip_blanks (drop_all i))) ∙ ends;
  hidden = λ i. record { closer = (ap (λ n. take n xs) len_is ∙ take_all) i; after = (ap (λ n. drop n xs) len_is ∙ drop_all) i };
}
  where
    q : ℕ
    q = prefix_len is_blank t

    xs : List ℕ
    xs = take (q + length m) t ++ after

    split : (r : List ℕ) × (skip_blanks t ≡ m ++ r)
    split = starts_split (skip_blanks t) m (and_true (starts (skip_blanks t) m) (at_line_end (skip_blanks (drop (closer_len m t) t))) line).0

    len_t : q + length m ≤ length t
    len_t = omega (arith, ap length split.1, length-append m split.0, length-drop q t, prefix_len-le-length is_blank t, some)

    len_front : length (take (q + length m) t) ≡ q + length m
    len_front = length-take-le (q + length m) t len_t

    byte : (k : ℕ) → k < q + length m → get_or xs k 0 ≡ get_or t k 0
    byte k lt = get_or_left (take (q + length m) t) after k (omega (arith, len_front)) ∙ get_or-take (q + length m) t k 0 lt
      where
        get_or_left : (u w : List ℕ) (k : ℕ) → k < length u → get_or (u ++ w) k 0 ≡ get_or u k 0
        get_or_left u w k lt = sym (get_or-take (length u) (u ++ w) k 0 lt) ∙ ap (λ l. get_or l k 0) (take-append_seam u w)

    prefix : prefix_len is_blank xs ≡ q
    prefix = prefix_len_is is_blank xs q 0 (omega (arith, length-append (take (q + length m) t) after, len_front))
        (λ k lt. ap is_blank (byte k (omega arith)) ∙ prefix_len_passes is_blank t k 0 lt)
        (λ _. ap is_blank (byte q (omega (arith, some))) ∙ prefix_len_stops is_blank t 0 (omega (arith, len_t, some)))

    len_is : closer_len m xs ≡ q + length m
    len_is = ap (λ n. n + length m) prefix

    take_all : take (q + length m) xs ≡ take (q + length m) t
    take_all = ap (λ n. take n xs) (sym len_front) ∙ take-append_seam (take (q + length m) t) after

    drop_all : drop (q + length m) xs ≡ after
    drop_all = ap (λ n. drop n xs) (sym len_front) ∙ drop-append_seam (take (q + length m) t) after

    front_is : drop q (take (q + length m) t) ≡ m
    front_is = drop-take q (length m) t ∙ ap (take (length m)) split.1 ∙ take-append_seam m split.0

    skipped : skip_blanks xs ≡ m ++ after
    skipped = ap (λ n. drop n xs) prefix ∙ drop-append-le q (take (q + length m) t) after (omega (arith, len_front)) ∙ ap (λ l. l ++ after) front_is

last_split : (u : List ℕ) (n : ℕ) → length u ≡ n + 1 → get_or u n 0 ≡ 10 → u ≡ take n u ++ 10 ∷ []
last_split u n len is = sym (take-append-drop n u) ∙ ap (λ l. take n u ++ l) (one (drop n u) (omega (arith, length-drop n u, len)) (get_or-drop n u 0 0 ∙ ap (λ k. get_or u k 0) (omega arith) ∙ is))
  where
    one : (l : List ℕ) → length l ≡ 1 → get_or l 0 0 ≡ 10 → l ≡ 10 ∷ []
    one [] len is = absurd (omega (arith, len))
    one (b ∷ []) len is = ap (λ c. c ∷ []) is
    one (b ∷ c ∷ l) len is = absurd (omega (arith, len))

-- the first marker line stays the first, with other text after it
module _ (m rest after : List ℕ) (n : ℕ) (some : 0 < length m) (free : is_lf_free m ≡ true) (first : IsFirstMarkerLine m rest n) (ends : at_line_end (skip_blanks after) ≡ true) where
  abbrev closer : List ℕ
  closer = take (closer_len m (drop n rest)) (drop n rest)

  abbrev z : List ℕ
  z = take n rest ++ (closer ++ after)

  len_front : length (take n rest) ≡ n
  len_front = length-take-le n rest first.here.within

  pub take_z : take n z ≡ take n rest
  take_z = ap (λ k. take k z) (sym len_front) ∙ take-append_seam (take n rest) (closer ++ after)

  drop_z : drop n z ≡ closer ++ after
  drop_z = ap (λ k. drop k z) (sym len_front) ∙ drop-append_seam (take n rest) (closer ++ after)

  byte : (k : ℕ) → k < n → get_or z k 0 ≡ get_or rest k 0
  byte k lt = sym (get_or-take n z k 0 lt) ∙ ap (λ l. get_or l k 0) take_z ∙ get_or-take n rest k 0 lt

  stood : Stands m (drop n rest) after
  stood = stands m (drop n rest) after some first.here.marked ends

  pub hidden_z : hides m (drop n z) ≡ record { closer = closer; after = after }
  hidden_z = ap (hides m) drop_z ∙ stood.hidden

  -- a line before n reads the same
  same_line : (j : ℕ) → j < n → is_marker_line m (drop j z) ≡ is_marker_line m (drop j rest)
  same_line j lt =
      let u : List ℕ = take n rest in
      let k : ℕ = n - 1 in
      let lf : get_or u k 0 ≡ 10 = get_or-take n rest k 0 (omega arith) ∙ first.here.starts_line (omega arith) in
      let u_is : u ≡ take k u ++ 10 ∷ [] = last_split u k (omega (arith, len_front)) lf in
      let pre : List ℕ = drop j (take k u) in
      let cut : drop j u ≡ pre ++ 10 ∷ [] = ap (drop j) u_is ∙ drop-append-le j (take k u) (10 ∷ []) (omega (arith, length-take-le k u (omega (arith, len_front)))) in
      let shape : (w : List ℕ) → drop j (u ++ w) ≡ pre ++ 10 ∷ w = λ w. drop-append-le j u w (omega (arith, len_front)) ∙ ap (λ l. l ++ w) cut ∙ append_assoc pre (10 ∷ []) w in
      ap (is_marker_line m) (shape (closer ++ after)) ∙ line_only m pre (closer ++ after) (drop n rest) free ∙ ap (is_marker_line m) (sym (shape (drop n rest)) ∙ ap (drop j) (take-append-drop n rest))

  pub first_z : IsFirstMarkerLine m z n
  first_z = record {
    here = record {
      within = omega (arith, length-append (take n rest) (closer ++ after), len_front);
      starts_line = λ some. byte (n - 1) (omega arith) ∙ first.here.starts_line some;
      marked = ap (is_marker_line m) drop_z ∙ stood.marked;
    };
    first = λ j lt is. first.first j lt (record {
      within = omega (arith, first.here.within);
      starts_line = λ some. sym (byte (j - 1) (omega arith)) ∙ is.starts_line some;
      marked = sym (same_line j lt) ∙ is.marked;
    });
  }
