-- Where the line of an offset begins.
use Rattle.std.proofs.Common.{◌≡◌, ◌∙◌, ◌+◌, ◌-◌, ◌<◌, ◌≤◌, ◌==◌, ◌++◌, ◌∷◌, ◌⊎◌, [], ℕ, List, Bool, suc, zero, true, false, ap, append_assoc, arith, cond, drop, get_or, inl, inr, length, length-append, not, refl, subst, sym, take}
use Rattle.std.specs.Prelude.{count_by}
use Rattle.std.specs.List.{after_first, after_last, prefix_len, suffix_len}
use Rattle.std.proofs.Math.Seq.{drop-append_seam}
use Rattle.std.proofs.lemmas.Bool.Decides.{nat_tests}
use Rattle.std.proofs.lemmas.List.{append-nil, get_or-append-add, get_or_at, length-take, take-append-drop}
use Rattle.std.proofs.lemmas.List.Sums.{sum_by-append, suffix_len_is}
use Rattle.hcl_source.specs.Places.{line_before}
use Rattle.source_snippet.specs.Snippets.{after_lines}

abbrev is_lf : ℕ → Bool
is_lf b = b == 10

lf : (b : ℕ) → is_lf b ≡ true → b ≡ 10
lf b e = grind (arith, nat_tests)

-- none of these bytes ends a line
abbrev InLine : List ℕ → Type 0
InLine [] = Unit {0}
InLine (b ∷ bs) = (is_lf b ≡ false) × InLine bs

in_line_more : (bs : List ℕ) (b : ℕ) → InLine bs → is_lf b ≡ false → InLine (bs ++ b ∷ [])
in_line_more [] b h e = (e, tt)
in_line_more (c ∷ bs) b h e = (h.0, in_line_more bs b h.1 e)

in_line_at : (bs : List ℕ) (k : ℕ) → InLine bs → k < length bs → is_lf (get_or bs k 0) ≡ false
in_line_at [] k h l = absurd (omega (arith, l))
in_line_at (b ∷ bs) zero h l = h.0
in_line_at (b ∷ bs) (suc k) h l = in_line_at bs k h.1 (omega (arith, l))

abbrev line_len : List ℕ → ℕ
line_len bs = prefix_len (λ b. not (is_lf b)) bs

passed : (b : ℕ) (bs : List ℕ) → is_lf b ≡ false → line_len (b ∷ bs) ≡ 1 + line_len bs
passed b bs e = ap (λ r. cond (not r) (1 + line_len bs) 0) e

-- a line that ends is passed
after_line : (line rest : List ℕ) → InLine line → after_first is_lf (line ++ 10 ∷ rest) ≡ rest
after_line [] rest h = refl
after_line (b ∷ line) rest h =
    let longer : line_len (b ∷ (line ++ 10 ∷ rest)) + 1 ≡ suc (line_len (line ++ 10 ∷ rest) + 1) = omega (arith, passed b (line ++ 10 ∷ rest) h.0) in
    ap (λ n. drop n (b ∷ (line ++ 10 ∷ rest))) longer ∙ after_line line rest h.1

abbrev IsAboveLine : List ℕ → Type 0
IsAboveLine front = (front ≡ []) ⊎ ((above : List ℕ) × (front ≡ above ++ 10 ∷ []))

-- the last line of a text, as far as the text goes
record EndsIn (text line : List ℕ) : Type 0 where
  pub in_line : InLine line
  pub front : List ℕ
  pub whole : text ≡ front ++ line
  pub above : IsAboveLine front

record Reached (text seen rest : List ℕ) : Type 0 where
  pub line : List ℕ
  pub last : EndsIn seen line
  pub after : after_lines (count_by is_lf seen) text ≡ line ++ rest

abbrev one_if : Bool → ℕ
one_if true = 1
one_if false = 0

as_one : (c : Bool) → cond c 1 0 ≡ one_if c
as_one true = refl
as_one false = refl

count_more : (seen : List ℕ) (b : ℕ) → count_by is_lf (seen ++ b ∷ []) ≡ count_by is_lf seen + one_if (is_lf b)
count_more seen b = sum_by-append (λ x. cond (is_lf x) 1 0) seen (b ∷ []) ∙ omega (arith, as_one (is_lf b))

module _ (text seen : List ℕ) (b : ℕ) (rest : List ℕ) (r : Reached text seen (b ∷ rest)) where
  counted : (c : Bool) → is_lf b ≡ c → one_if (is_lf b) ≡ one_if c
  counted c e = ap one_if e

  over_lf : b ≡ 10 → is_lf b ≡ true → Reached text (seen ++ b ∷ []) rest
  over_lf is e =
      let count : count_by is_lf (seen ++ b ∷ []) ≡ suc (count_by is_lf seen) = omega (arith, count_more seen b, counted true e) in
      record {
        line = [];
        last = record { in_line = tt; front = seen ++ b ∷ []; whole = sym (append-nil (seen ++ b ∷ [])); above = inr (seen, ap (λ c. seen ++ c ∷ []) is) };
        after = ap (λ n. after_lines n text) count ∙ ap (after_first is_lf) (r.after ∙ ap (λ c. r.line ++ c ∷ rest) is) ∙ after_line r.line rest r.last.in_line;
      }

  over_other : is_lf b ≡ false → Reached text (seen ++ b ∷ []) rest
  over_other e =
      let count : count_by is_lf (seen ++ b ∷ []) ≡ count_by is_lf seen = omega (arith, count_more seen b, counted false e) in
      record {
        line = r.line ++ b ∷ [];
        last = record {
          in_line = in_line_more r.line b r.last.in_line e;
          front = r.last.front;
          whole = ap (λ l. l ++ b ∷ []) r.last.whole ∙ append_assoc r.last.front r.line (b ∷ []);
          above = r.last.above;
        };
        after = ap (λ n. after_lines n text) count ∙ r.after ∙ sym (append_assoc r.line (b ∷ []) rest);
      }

  over_byte : Reached text (seen ++ b ∷ []) rest
  over_byte = by (is_lf b) refl
    where
      by : (c : Bool) → is_lf b ≡ c → Reached text (seen ++ b ∷ []) rest
      by true e = over_lf (lf b e) e
      by false e = over_other e

reach : (text seen front rest : List ℕ) → Reached text seen (front ++ rest) → Reached text (seen ++ front) rest
reach text seen [] rest r = subst (λ s. Reached text s rest) (sym (append-nil seen)) r
reach text seen (b ∷ front) rest r = subst (λ s. Reached text s rest) (append_assoc seen (b ∷ []) front) (reach text (seen ++ b ∷ []) front rest (over_byte text seen b (front ++ rest) r))

last_is : (text line : List ℕ) → EndsIn text line → after_last is_lf text ≡ line
last_is text line e = subst (λ t. after_last is_lf t ≡ line) (sym e.whole) whole
  where
    n : ℕ
    n = length e.front

    all : List ℕ
    all = e.front ++ line

    size : length all ≡ n + length line
    size = length-append e.front line

    passes : (k : ℕ) → n ≤ k → k < length all → not (is_lf (get_or all k 0)) ≡ true
    passes k low high =
        let at : n + (k - n) ≡ k = omega (arith, low) in
        let is : get_or all k 0 ≡ get_or line (k - n) 0 = ap (λ i. get_or all i 0) (sym at) ∙ get_or-append-add e.front line (k - n) 0 in
        ap (λ b. not (is_lf b)) is ∙ ap not (in_line_at line (k - n) e.in_line (omega (arith, low, high, size)))

    stops : 0 < n → not (is_lf (get_or all (n - 1) 0)) ≡ false
    stops some = by e.above
      where
        by : IsAboveLine e.front → not (is_lf (get_or all (n - 1) 0)) ≡ false
        by (inl none) = absurd (omega (arith, some, ap length none))
        by (inr found) =
            let long = ap length found.1 ∙ length-append found.0 (10 ∷ []) in
            let is : get_or all (n - 1) 0 ≡ 10 = ap (λ f. get_or (f ++ line) (n - 1) 0) found.1 ∙ ap (λ l. get_or l (n - 1) 0) (append_assoc found.0 (10 ∷ []) line) ∙ get_or_at found.0 10 line 0 (n - 1) (omega (arith, long)) in
            ap (λ b. not (is_lf b)) is

    whole : after_last is_lf all ≡ line
    whole =
        let len = suffix_len_is (λ b. not (is_lf b)) all n 0 (omega (arith, size)) passes stops in
        let from : length all - suffix_len (λ b. not (is_lf b)) all ≡ n = omega (arith, len, size) in
        ap (λ k. drop k all) from ∙ drop-append_seam e.front line

pub record LineAt (text : List ℕ) (at : ℕ) : Type 0 where
  pub after : after_lines (count_by is_lf (take at text)) text ≡ line_before text at ++ drop at text
  pub starts : length (line_before text at) ≤ at

pub line_at : (text : List ℕ) (at : ℕ) → at ≤ length text → LineAt text at
line_at text at within =
    let begun : Reached text [] (take at text ++ drop at text) = record {
      line = [];
      last = record { in_line = tt; front = []; whole = refl; above = inl refl };
      after = sym (take-append-drop at text);
    } in
    let r = reach text [] (take at text) (drop at text) begun in
    let is = last_is (take at text) r.line r.last in
    record {
      after = r.after ∙ ap (λ l. l ++ drop at text) (sym is);
      starts = omega (arith, ap length is, ap length r.last.whole, length-append r.last.front r.line, length-take at text);
    }
