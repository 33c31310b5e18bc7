-- Lines that can be the marker: those that contain it.
use Rattle.std.proofs.Common.{◌≡◌, ◌≢◌, ℕ, zero, suc, ◌+◌, ◌-◌, ◌<◌, ◌≤◌, ◌&&◌, ◌==◌, nat_eq, true, false, List, [], ◌∷◌, length, drop, get_or, cond, inl, inr, ⊎_elim, refl, sym, ap, subst, ◌∙◌, arith, length-drop, get_or-drop}
use Rattle.std.specs.List.{prefix_len, starts_with}
use Rattle.std.proofs.lemmas.List.Sums.{prefix_len_passes, prefix_len_is, prefix_len-le-length}
use Rattle.std.proofs.lemmas.List.{drop-drop}
use Rattle.std.proofs.lemmas.Bool.{cases_order, cases_lt, cases_Bool}
use Rattle.std.proofs.lemmas.Bool.Decides.{nat_tests}
use Rattle.memchr.specs.Find.{OccursAt}
use Rattle.hcl_tokens.specs.Spelling.{starts, is_blank}
use Rattle.hcl_tokens.specs.Scans.{IsMarkerLine, IsFirstMarkerLine, skip_blanks, at_line_end, closer_len}
use Rattle.hcl_scan.specs.Inner.Lanes.{Stands, IsAfterOthers}
use Rattle.hcl_scan.specs.Inner.MarkerPlaces.{IsPlace, IsBlankFront, EndsLine, IsNextLine}
use Rattle.hcl_scan.proofs.TextStartLemmas.{both}
use Rattle.hcl_scan.proofs.LiteralLemmas.{starts_len}

-- a text that begins with a marker has its bytes there
starts_reads : (text marker : List ℕ) → starts text marker ≡ true → (j : ℕ) → j < length marker → get_or text j 0 ≡ get_or marker j 0
starts_reads text [] h j lt = absurd (omega (arith, lt))
starts_reads [] (c ∷ marker) h j lt = absurd (cc)
starts_reads (b ∷ text) (c ∷ marker) h zero lt = same b c (both (b == c) (starts text marker) h).0
  where
    same : (x y : ℕ) → (x == y) ≡ true → x ≡ y
    same x y e = grind (arith, nat_tests)
starts_reads (b ∷ text) (c ∷ marker) h (suc j) lt = starts_reads text marker (both (b == c) (starts text marker) h).1 j (omega (arith, lt))

-- the two words for a text's front
pub same_front : (text front : List ℕ) → starts_with nat_eq text front ≡ starts text front
same_front text [] = refl
same_front [] (c ∷ front) = refl
same_front (b ∷ text) (c ∷ front) = (λ i. turned c b i && same_front text front i)
  where
    turned : (x y : ℕ) → (x == y) ≡ (y == x)
    turned x y = grind (arith, nat_tests)

-- a byte that is at most a blank
abbrev Low : ℕ → Type 0
Low b = b ≤ 32

blank_low : (b : ℕ) → is_blank b ≡ true → Low b
blank_low b h = grind (arith, nat_tests)

-- if a line ends after blanks, none of its bytes is above a blank
end_low : (text : List ℕ) → at_line_end (skip_blanks text) ≡ true → Low (get_or text 0 0)
end_low [] h = omega arith
end_low (b ∷ text) h = elim (cases_Bool (is_blank b)) [
  | inl blank ↦ blank_low b blank
  | inr other ↦ ends b text (ap at_line_end (sym (whole other)) ∙ h)
]
  where
    whole : is_blank b ≡ false → skip_blanks (b ∷ text) ≡ b ∷ text
    whole other = ap (λ v. drop (cond v (1 + prefix_len is_blank text) 0) (b ∷ text)) other

    ends : (c : ℕ) (rest : List ℕ) → at_line_end (c ∷ rest) ≡ true → Low c
    ends c rest e = grind (arith, nat_tests)

module _ (marker text : List ℕ) (m : ℕ) (is : IsMarkerLine marker text m) where
  abbrev pub front : ℕ
  front = prefix_len is_blank (drop m text)

  marked : (starts (skip_blanks (drop m text)) marker ≡ true) × (at_line_end (skip_blanks (drop (closer_len marker (drop m text)) (drop m text))) ≡ true)
  marked = both (starts (skip_blanks (drop m text)) marker) (at_line_end (skip_blanks (drop (closer_len marker (drop m text)) (drop m text)))) is.marked

  -- the marker is after the line's blanks
  pub stands : starts (drop (m + front) text) marker ≡ true
  stands = ap (λ l. starts l marker) (sym (drop-drop front m text)) ∙ marked.0

  pub fits : m + front + length marker ≤ length text
  fits = omega (arith, starts_len (drop front (drop m text)) marker marked.0, length-drop front (drop m text), length-drop m text, is.within, prefix_len-le-length is_blank (drop m text))

  after_low : Low (get_or text (m + front + length marker) 0)
  after_low = subst Low (get_or-drop (closer_len marker (drop m text)) (drop m text) 0 0 ∙ get_or-drop m text (closer_len marker (drop m text) + 0) 0 ∙ ap (λ i. get_or text i 0) (omega arith))
      (end_low (drop (closer_len marker (drop m text)) (drop m text)) marked.1)

  before_low : (k : ℕ) → k + 1 ≡ m + front → Low (get_or text k 0)
  before_low k e = elim (cases_lt k m) [
    | inl early ↦ subst Low (sym (ap (λ i. get_or text i 0) (omega (arith, e, early)) ∙ is.starts_line (omega (arith, e, early)))) (omega arith)
    | inr late ↦ blank_low (get_or text k 0) (ap is_blank (ap (λ i. get_or text i 0) (omega (arith, late)) ∙ sym (get_or-drop m text (k - m) 0)) ∙ prefix_len_passes is_blank (drop m text) (k - m) 0 (omega (arith, e, late)))
  ]

  byte : (k j : ℕ) → k + 1 ≡ m + front → j < length marker → get_or text (k + 1 + j) 0 ≡ get_or marker j 0
  byte k j e lt = ap (λ i. get_or text i 0) (omega (arith, e)) ∙ sym (get_or-drop (m + front) text j 0) ∙ starts_reads (drop (m + front) text) marker stands j lt

  -- so it is there, by the bytes around it too
  pub stands_after : 0 < length marker → (k : ℕ) → k + 1 ≡ m + front → Stands text marker k
  stands_after some k e = record {
    likely = record {
      before = before_low k e;
      front = ap (λ i. get_or text i 0) (omega arith) ∙ byte k 0 e some;
      back = ap (λ i. get_or text i 0) (omega (arith, some)) ∙ byte k (length marker - 1) e (omega (arith, some));
      following = subst (λ i. Low (get_or text i 0)) (omega (arith, e)) after_low;
    };
    begins = ap (λ i. starts (drop i text) marker) e ∙ stands;
  }

-- a marker line's marker isn't before the place, among the lines that begin from `at` on
abbrev pub IsLater : List ℕ → List ℕ → ℕ → ℕ → Type 0
IsLater marker text at here = (m : ℕ) → at ≤ m → IsMarkerLine marker text m → here ≤ m + prefix_len is_blank (drop m text)

pub later : (marker text : List ℕ) (at here next : ℕ) → 0 < length marker → IsLater marker text at here → starts (drop here text) marker ≡ false → IsAfterOthers text marker here next → IsLater marker text at next
later marker text at here next some old stands_not past m low is =
    elim (cases_lt (m + prefix_len is_blank (drop m text)) next) [
      | inl early ↦ ⊎_elim (λ e. absurd (not_there e)) (λ other. ⊎_elim (λ below. absurd (omega (arith, below, old m low is))) (λ above. absurd (unlikely above early)) other) (cases_order (m + prefix_len is_blank (drop m text)) here)
      | inr late ↦ late
    ]
  where
    not_there : m + prefix_len is_blank (drop m text) ≡ here → ⊥
    not_there e =
        let yes = ap (λ i. starts (drop i text) marker) (sym e) ∙ stands marker text m is in
        let no = stands_not in
        absurd (cc (yes, no))

    unlikely : here < m + prefix_len is_blank (drop m text) → m + prefix_len is_blank (drop m text) < next → ⊥
    unlikely above early =
        let k : ℕ = m + prefix_len is_blank (drop m text) - 1 in
        past.none k (omega (arith, above)) (omega (arith, early, above)) (stands_after marker text m is some k (omega (arith, above)))

-- if the text ends before a whole marker, none follows
pub none_later : (marker text : List ℕ) (at here : ℕ) → here ≤ length text → length text - here < length marker → IsLater marker text at here → (m : ℕ) → at ≤ m → ¬ IsMarkerLine marker text m
none_later marker text at here within short old m low is = omega (arith, old m low is, fits marker text m is, short, within)

-- a text that begins with a marker has the marker there
pub occurs_at : (marker text : List ℕ) (place : ℕ) → place ≤ length text → starts (drop place text) marker ≡ true → OccursAt text marker place
occurs_at marker text place within begun = record {
  fits = omega (arith, starts_len (drop place text) marker begun, length-drop place text, within);
  reads = λ j lt. sym (get_or-drop place text j 0) ∙ starts_reads (drop place text) marker begun j lt;
}

-- a text with the marker's bytes begins with it
reads_starts : (text marker : List ℕ) → length marker ≤ length text → ((j : ℕ) → j < length marker → get_or text j 0 ≡ get_or marker j 0) → starts text marker ≡ true
reads_starts [] [] fits reads = refl
reads_starts (b ∷ text) [] fits reads = refl
reads_starts [] (c ∷ marker) fits reads = absurd (omega (arith, fits))
reads_starts (b ∷ text) (c ∷ marker) fits reads = (λ i. same b c (reads 0 (omega arith)) i && reads_starts text marker (omega (arith, fits)) (λ j lt. reads (suc j) (omega (arith, lt))) i)
  where
    same : (x y : ℕ) → x ≡ y → (x == y) ≡ true
    same x y e = grind (arith, nat_tests)

module _ (marker text : List ℕ) (some : 0 < length marker) (begins : is_blank (get_or marker 0 0) ≡ false) (at place : ℕ) (place_is : IsPlace marker text at place) (old : (m : ℕ) → m < at → ¬ IsMarkerLine marker text m) where
  no_blank : is_blank (get_or text place 0) ≡ false
  no_blank = ap is_blank (ap (λ i. get_or text i 0) (omega arith) ∙ place_is.occurs.reads 0 some) ∙ begins

  -- a marker line that begins up to the place has its marker there
  module _ (m : ℕ) (is : IsMarkerLine marker text m) (low : at ≤ m) (high : m ≤ place) where
    abbrev blanks : ℕ
    blanks = prefix_len is_blank (drop m text)

    passes : (k : ℕ) → m ≤ k → k < m + blanks → is_blank (get_or text k 0) ≡ true
    passes k from upto = ap is_blank (ap (λ i. get_or text i 0) (omega (arith, from)) ∙ sym (get_or-drop m text (k - m) 0)) ∙ prefix_len_passes is_blank (drop m text) (k - m) 0 (omega (arith, from, upto))

    there : m + blanks ≡ place
    there = ⊎_elim (λ e. e) (λ other. ⊎_elim (λ below. absurd (omega (arith, below, place_is.first m low is))) (λ above. let yes = passes place high above in let no = no_blank in absurd (cc (yes, no))) other) (cases_order (m + blanks) place)

    blank_front : IsBlankFront text place m
    blank_front = record { before = high; starts_line = is.starts_line; blank = λ k from upto. passes k from (omega (arith, there, upto)) }

    ends : EndsLine text (place + length marker)
    ends =
        ap (λ l. at_line_end (skip_blanks l)) (ap (λ i. drop i text) (omega (arith, there)) ∙ sym (drop-drop (closer_len marker (drop m text)) m text))
        ∙ (both (starts (skip_blanks (drop m text)) marker) (at_line_end (skip_blanks (drop (closer_len marker (drop m text)) (drop m text)))) is.marked).1

  -- the place's line is the first marker line
  module _ (n : ℕ) (front : IsBlankFront text place n) (end : EndsLine text (place + length marker)) where
    len : prefix_len is_blank (drop n text) ≡ place - n
    len = prefix_len_is is_blank (drop n text) (place - n) 0 (omega (arith, length-drop n text, front.before, place_is.occurs.fits))
        (λ k lt. ap is_blank (get_or-drop n text k 0) ∙ front.blank (n + k) (omega arith) (omega (arith, lt)))
        (λ _. ap is_blank (get_or-drop n text (place - n) 0 ∙ ap (λ i. get_or text i 0) (omega (arith, front.before))) ∙ no_blank)

    begun_at : skip_blanks (drop n text) ≡ drop place text
    begun_at = ap (λ k. drop k (drop n text)) len ∙ drop-drop (place - n) n text ∙ ap (λ k. drop k text) (omega (arith, front.before))

    starts_there : starts (drop place text) marker ≡ true
    starts_there = reads_starts (drop place text) marker (omega (arith, length-drop place text, place_is.occurs.fits)) (λ j lt. get_or-drop place text j 0 ∙ place_is.occurs.reads j lt)

    after : drop (closer_len marker (drop n text)) (drop n text) ≡ drop (place + length marker) text
    after = drop-drop (closer_len marker (drop n text)) n text ∙ ap (λ k. drop k text) (omega (arith, len, front.before))

    none_below : (m : ℕ) → m < n → ¬ IsMarkerLine marker text m
    none_below m lt is = ⊎_elim (λ e. from (omega (arith, e))) (λ other. ⊎_elim (λ below. old m below is) (λ above. from (omega (arith, above))) other) (cases_order m at)
      where
        from : at ≤ m → ⊥
        from low =
            let yes = (blank_front m is low (omega (arith, lt, front.before))).blank (n - 1) (omega (arith, lt)) (omega (arith, lt, front.before)) in
            let lf = ap is_blank (front.starts_line (omega (arith, lt))) in
            let no : is_blank 10 ≡ true = sym lf ∙ yes in
            absurd (cc (no))

    pub first_line : IsFirstMarkerLine marker text n
    first_line = record {
      here = record {
        within = omega (arith, front.before, place_is.occurs.fits);
        starts_line = front.starts_line;
        marked = (λ i. starts (begun_at i) marker && at_line_end (skip_blanks (after i))) ∙ (λ i. starts_there i && end i);
      };
      first = none_below;
    }

  -- the place's line is no marker line
  module _ (refused : (n : ℕ) → IsBlankFront text place n → ¬ EndsLine text (place + length marker)) where
    none_upto : (m : ℕ) → m ≤ place → ¬ IsMarkerLine marker text m
    none_upto m high is = ⊎_elim (λ e. from (omega (arith, e))) (λ other. ⊎_elim (λ below. old m below is) (λ above. from (omega (arith, above))) other) (cases_order m at)
      where
        from : at ≤ m → ⊥
        from low = refused m (blank_front m is low high) (ends m is low high)

    none_but : (m : ℕ) → (place < m → ¬ IsMarkerLine marker text m) → ¬ IsMarkerLine marker text m
    none_but m beyond is = ⊎_elim (λ e. none_upto m (omega (arith, e)) is) (λ other. ⊎_elim (λ below. none_upto m (omega (arith, below)) is) (λ above. beyond above is) other) (cases_order m place)

    pub none_before : (n : ℕ) → IsNextLine text place n → (m : ℕ) → m < n → ¬ IsMarkerLine marker text m
    none_before n next m high is = none_but m (λ beyond also. next.first m beyond high (also.starts_line (omega (arith, beyond)))) is

    pub none_at_all : ((n : ℕ) → place < n → n ≤ length text → get_or text (n - 1) 0 ≢ 10) → (m : ℕ) → ¬ IsMarkerLine marker text m
    none_at_all last m is = none_but m (λ beyond also. last m beyond also.within (also.starts_line (omega (arith, beyond)))) is
