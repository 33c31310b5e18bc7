-- Parts of texts, and their lines.
use Rattle.std.proofs.Common.{◌≡◌, ◌∙◌, ◌<◌, ◌≤◌, ◌+◌, ◌-◌, ◌++◌, ◌∷◌, ◌⊎◌, [], ℕ, zero, suc, Bool, true, false, List, ap, arith, drop, get_or, inl, inr, length, refl, subst, sym, take}
use Rattle.std.proofs.lemmas.List.{drop-drop, length-drop, length-take-le}
use Rattle.std.proofs.Math.Seq.{take-add}
use Rattle.std.proofs.lemmas.Bool.Decides.{eqb_tells}
use Rattle.std.proofs.lemmas.Str.{IsCharBoundary-after_ascii}
use Rattle.std.specs.List.{concat, onto_first}
use Rattle.std.specs.Prelude.{◌≢◌, ◌==◌, if◌then◌else◌}
use Rattle.std.specs.Str.{IsCharBoundary, IsUtf8}
use Rattle.line_diff.specs.Diffs.{lines_of}
use Rattle.text_places.specs.Inner.Cuts.{between, CutsLine}

pub between_none : (text : List ℕ) (at : ℕ) → between text at at ≡ []
between_none text at = ap (λ n. take n (drop at text)) none
  where
    none : at - at ≡ 0
    none = omega arith

pub between_more : (text : List ℕ) (a b c : ℕ) → a ≤ b → b ≤ c → between text a b ++ between text b c ≡ between text a c
between_more text a b c ab bc =
    let first : a + (b - a) ≡ b = omega (arith, ab) in
    let both : (b - a) + (c - b) ≡ c - a = omega (arith, ab, bc) in
    sym (take-add (b - a) (c - b) (drop a text) ∙ ap (λ l. take (b - a) (drop a text) ++ take (c - b) l) (drop-drop (b - a) a text ∙ ap (λ n. drop n text) first)) ∙ ap (λ n. take n (drop a text)) both

pub length_between : (text : List ℕ) (a b : ℕ) → a ≤ b → b ≤ length text → a + length (between text a b) ≡ b
length_between text a b ab within =
    let fits : b - a ≤ length (drop a text) = omega (arith, ab, within, length-drop a text) in
    omega (arith, ab, length-take-le (b - a) (drop a text) fits)

pub no_more : (text : List ℕ) (at : ℕ) → length text ≤ at → drop at text ≡ []
no_more text at le = by (drop at text) left
  where
    left : length (drop at text) ≡ 0
    left = omega (arith, le, length-drop at text)

    by : (xs : List ℕ) → length xs ≡ 0 → xs ≡ []
    by [] e = refl
    by (x ∷ xs) e = absurd (no e)
      where
        no : suc (length xs) ≡ 0 → ⊥
        no h = omega (arith, h)

take_nothing : (n : ℕ) → take {A = ℕ} n [] ≡ []
take_nothing zero = refl
take_nothing (suc n) = refl

drop_nothing : (n : ℕ) → drop {A = ℕ} n [] ≡ []
drop_nothing zero = refl
drop_nothing (suc n) = refl

-- a byte that ends a line, and one that doesn't
lf_first : (b : ℕ) (bs : List ℕ) → (b == 10) ≡ true → lines_of (b ∷ bs) ≡ (b ∷ []) ∷ lines_of bs
lf_first b bs is = ap (λ (t : Bool). if t then (b ∷ []) ∷ lines_of bs else onto_first b (lines_of bs)) is

other_first : (b : ℕ) (bs : List ℕ) → (b == 10) ≡ false → lines_of (b ∷ bs) ≡ onto_first b (lines_of bs)
other_first b bs is = ap (λ (t : Bool). if t then (b ∷ []) ∷ lines_of bs else onto_first b (lines_of bs)) is

-- a text whose first LF is here, or that ends here, by lines
pub first_line_at : (bs : List ℕ) (n : ℕ) → n < length bs → ((k : ℕ) → k < n → get_or bs k 0 ≢ 10) → (suc n < length bs → get_or bs n 0 ≡ 10)
    → lines_of bs ≡ take (suc n) bs ∷ lines_of (drop (suc n) bs)
first_line_at [] n lt clean stops = absurd (no lt)
  where
    no : n < 0 → ⊥
    no h = omega (arith, h)
first_line_at (b ∷ []) n lt clean stops = by (eqb_tells b 10)
  where
    all : {X : Type 0} (f : List ℕ → List ℕ → X) → f (take (suc n) (b ∷ [])) (drop (suc n) (b ∷ [])) ≡ f (b ∷ []) []
    all f = ap (λ l. f (b ∷ l) (drop n [])) (take_nothing n) ∙ ap (λ l. f (b ∷ []) l) (drop_nothing n)

    by : (((b == 10) ≡ true) × (b ≡ 10)) ⊎ (((b == 10) ≡ false) × (b ≢ 10)) → lines_of (b ∷ []) ≡ take (suc n) (b ∷ []) ∷ lines_of (drop (suc n) (b ∷ []))
    by (inl h) = lf_first b [] h.0 ∙ sym (all (λ l m. l ∷ lines_of m))
    by (inr h) = other_first b [] h.0 ∙ sym (all (λ l m. l ∷ lines_of m))
first_line_at (b ∷ c ∷ bs) zero lt clean stops = by (eqb_tells b 10)
  where
    more : suc zero < length (b ∷ c ∷ bs)
    more = omega arith

    by : (((b == 10) ≡ true) × (b ≡ 10)) ⊎ (((b == 10) ≡ false) × (b ≢ 10)) → lines_of (b ∷ c ∷ bs) ≡ (b ∷ []) ∷ lines_of (c ∷ bs)
    by (inl h) = lf_first b (c ∷ bs) h.0
    by (inr h) = absurd (h.1 (stops more))
first_line_at (b ∷ c ∷ bs) (suc n) lt clean stops =
    by (eqb_tells b 10) (first_line_at (c ∷ bs) n (omega (arith, lt)) (λ k h. clean (suc k) (omega (arith, h))) (λ h. stops (omega (arith, h))))
  where
    first : 0 < suc n
    first = omega arith

    by : (((b == 10) ≡ true) × (b ≡ 10)) ⊎ (((b == 10) ≡ false) × (b ≢ 10)) → lines_of (c ∷ bs) ≡ take (suc n) (c ∷ bs) ∷ lines_of (drop (suc n) (c ∷ bs))
        → lines_of (b ∷ c ∷ bs) ≡ (b ∷ take (suc n) (c ∷ bs)) ∷ lines_of (drop (suc n) (c ∷ bs))
    by (inl h) rest = absurd (clean 0 first h.1)
    by (inr h) rest = other_first b (c ∷ bs) h.0 ∙ ap (onto_first b) rest

pub concat_lines : (bs : List ℕ) → concat (lines_of bs) ≡ bs
concat_lines [] = refl
concat_lines (b ∷ bs) = by (b == 10) refl (concat_lines bs)
  where
    onto : (ls : List (List ℕ)) → concat (onto_first b ls) ≡ b ∷ concat ls
    onto [] = refl
    onto (l ∷ ls) = refl

    by : (t : Bool) → (b == 10) ≡ t → concat (lines_of bs) ≡ bs → concat (lines_of (b ∷ bs)) ≡ b ∷ bs
    by true is rest = ap concat (lf_first b bs is) ∙ ap (λ l. b ∷ l) rest
    by false is rest = ap concat (other_first b bs is) ∙ onto (lines_of bs) ∙ ap (λ l. b ∷ l) rest

-- the first line of a text
pub record IsFirstLine (bs o : List ℕ) (os : List (List ℕ)) : Type 0 where
  pub within : length o ≤ length bs
  pub some : 0 < length o
  pub rest : os ≡ lines_of (drop (length o) bs)
  pub stops : (n : ℕ) → suc n ≡ length o → length o < length bs → get_or bs n 0 ≡ 10

pub first_line : (bs o : List ℕ) (os : List (List ℕ)) → lines_of bs ≡ o ∷ os → IsFirstLine bs o os
first_line [] o os is = absurd (cc)
first_line (b ∷ bs) o os is = by (eqb_tells b 10) (λ p ps h. first_line bs p ps h)
  where
    ends : b ≡ 10 → (b ∷ []) ∷ lines_of bs ≡ o ∷ os → IsFirstLine (b ∷ bs) o os
    ends lf e =
        let head : b ∷ [] ≡ o = cc in
        let tail : lines_of bs ≡ os = cc in
        subst (λ p. IsFirstLine (b ∷ bs) p os) head (record {
          within = omega arith;
          some = omega arith;
          rest = sym tail;
          stops = λ n h more. let none : n ≡ 0 = omega (arith, h) in ap (λ k. get_or (b ∷ bs) k 0) none ∙ lf;
        })

    goes : (ls : List (List ℕ)) → lines_of bs ≡ ls → ((p : List ℕ) (ps : List (List ℕ)) → ls ≡ p ∷ ps → IsFirstLine bs p ps) → onto_first b ls ≡ o ∷ os → IsFirstLine (b ∷ bs) o os
    goes [] none inner e =
        let empty : bs ≡ [] = sym (concat_lines bs) ∙ ap concat none in
        let head : b ∷ [] ≡ o = cc in
        let tail : [] ≡ os = cc in
        subst (λ p. IsFirstLine (b ∷ bs) p os) head (record {
          within = omega arith;
          some = omega arith;
          rest = sym tail ∙ sym none;
          stops = λ n h more. absurd (let short : length bs ≡ 0 = ap length empty in omega (arith, more, short));
        })
    goes (p ∷ ps) none inner e =
        let head : b ∷ p ≡ o = cc in
        let tail : ps ≡ os = cc in
        let first = inner p ps refl in
        subst (λ q. IsFirstLine (b ∷ bs) q os) head (record {
          within = omega (arith, first.within);
          some = omega arith;
          rest = sym tail ∙ first.rest;
          stops = λ n h more. later n h more first;
        })
      where
        later : (n : ℕ) → suc n ≡ length (b ∷ p) → length (b ∷ p) < length (b ∷ bs) → IsFirstLine bs p ps → get_or (b ∷ bs) n 0 ≡ 10
        later zero h more first = absurd (omega (arith, h, first.some))
        later (suc n) h more first = first.stops n (omega (arith, h)) (omega (arith, more))

    by : (((b == 10) ≡ true) × (b ≡ 10)) ⊎ (((b == 10) ≡ false) × (b ≢ 10)) → ((p : List ℕ) (ps : List (List ℕ)) → lines_of bs ≡ p ∷ ps → IsFirstLine bs p ps) → IsFirstLine (b ∷ bs) o os
    by (inl h) inner = ends h.1 (sym (lf_first b bs h.0) ∙ is)
    by (inr h) inner = goes (lines_of bs) refl inner (sym (other_first b bs h.0) ∙ is)

-- a part that ends where the first line does
pub cut_line : (text : List ℕ) (at n end : ℕ) → at + n < length text → end ≡ at + n + 1 → ((k : ℕ) → k < n → get_or (drop at text) k 0 ≢ 10)
    → (suc n < length (drop at text) → get_or (drop at text) n 0 ≡ 10) → (get_or (drop at text) n 0 ≡ get_or text (at + n) 0) → CutsLine text at end
cut_line text at n end lt is clean stops here =
    let fits : n < length (drop at text) = omega (arith, lt, length-drop at text) in
    let long : suc n ≡ end - at = omega (arith, is) in
    let there : at + suc n ≡ end = omega (arith, is) in
    let last : at + n ≡ end - 1 = omega (arith, is) in
    record {
      after = omega (arith, is);
      within = omega (arith, is, lt);
      lines = first_line_at (drop at text) n fits clean stops ∙ ap (λ k. take k (drop at text) ∷ lines_of (drop (suc n) (drop at text))) long
          ∙ ap (λ l. between text at end ∷ lines_of l) (drop-drop (suc n) at text ∙ ap (λ k. drop k text) there);
      stops = λ more. ap (λ k. get_or text k 0) (sym last) ∙ sym here ∙ stops (omega (arith, more, is, length-drop at text));
    }

-- where a line ends a character does
pub cut_bounds : (text : List ℕ) (at end : ℕ) → IsUtf8 text → CutsLine text at end → IsCharBoundary text end
cut_bounds text at end utf8 cut =
    let last : end - 1 + 1 ≡ end = omega (arith, cut.after) in (
      cut.within,
      λ more.
          let lf : get_or text (end - 1) 0 ≡ 10 = cut.stops more in
          let bound : IsCharBoundary text (end - 1 + 1) = IsCharBoundary-after_ascii text (end - 1) utf8 (omega (arith, more)) (omega (arith, lf)) in
          (subst (λ n. IsCharBoundary text n) last bound).1 more,
    )
