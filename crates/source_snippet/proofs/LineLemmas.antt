-- The lines of a text: the end of the first, the least number of its characters, and the text after the last.
use Rattle.std.proofs.Common.{◌≡◌, ◌*◌, ◌<◌, ◌≤◌, ◌==◌, ◌⊎◌, ℕ, suc, zero, true, false, List, [], ◌∷◌, length, take, get_or, refl, sym, ap, subst, arith, ⊎_elim, length-append, inl, inr}
use Rattle.std.specs.Prelude.{encode_utf8, encode_utf8_all}
use Rattle.std.specs.List.{after_first, before_first, position_or_len}
use Rattle.std.specs.Str.{chars, IsUtf8, IsCharBoundary}
use Rattle.std.proofs.lemmas.Bool.Decides.{nat_tests}
use Rattle.std.proofs.lemmas.List.Sums.{position_or_len_is, passes_at_first, prefix_len-le-length}
use Rattle.std.proofs.lemmas.Str.{encodes-chars, length-encode, len_utf8_bounds, IsCharBoundary-before_ascii, IsCharBoundary-end, IsUtf8-take}
use Rattle.source_snippet.specs.Snippets.{after_lines, longest_line}

less : (a b : ℕ) → (a < b) ⊎ (b ≤ a)
less a b = grind arith

-- the end of the first line
abbrev pub line_len : List ℕ → ℕ
line_len text = position_or_len (λ b. b == 10) text

is_lf : (b : ℕ) → (b == 10) ≡ true → b ≡ 10
is_lf b h = grind (arith, nat_tests)

pub line_len_is : (text : List ℕ) (n : ℕ) → n ≤ length text → ((k : ℕ) → k < n → get_or text k 0 ≡ 10 → ⊥) → (n < length text → get_or text n 0 ≡ 10) → n ≡ line_len text
line_len_is text n within none lf =
    let test : (b : ℕ) → (b ≡ 10 → ⊥) → (b == 10) ≡ false = λ b h. grind (arith, nat_tests) in
    let is : (b : ℕ) → b ≡ 10 → (b == 10) ≡ true = λ b h. grind (arith, nat_tests) in
    sym (position_or_len_is (λ b. b == 10) text n 0 within (λ k low. test _ (none k low)) (λ h. is _ (lf h)))

pub line_len_above : (text : List ℕ) (n : ℕ) → n < length text → ((k : ℕ) → k < n → get_or text k 0 ≡ 10 → ⊥) → (get_or text n 0 ≡ 10 → ⊥) → n < line_len text
line_len_above text n within none here = by (apart n (line_len text))
  where
    apart : (a b : ℕ) → (a < b) ⊎ ((b < a) ⊎ (b ≡ a))
    apart a b = grind arith

    found : line_len text < length text → get_or text (line_len text) 0 ≡ 10
    found h = is_lf _ (passes_at_first (λ b. b == 10) text 0 h)

    by : (n < line_len text) ⊎ ((line_len text < n) ⊎ (line_len text ≡ n)) → n < line_len text
    by (inl h) = h
    by (inr (inl h)) = absurd (none _ h (found (omega arith)))
    by (inr (inr h)) = absurd (here (subst (λ k. get_or text k 0 ≡ 10) h (found (omega arith))))

-- the end of a line isn't within a character
pub line_boundary : (text : List ℕ) → IsUtf8 text → IsCharBoundary text (line_len text)
line_boundary text utf8 = by (less (line_len text) (length text))
  where
    within : line_len text ≤ length text
    within = prefix_len-le-length _ text

    by : (line_len text < length text) ⊎ (length text ≤ line_len text) → IsCharBoundary text (line_len text)
    by (inl h) = IsCharBoundary-before_ascii text (line_len text) h (omega (arith, is_lf _ (passes_at_first (λ b. b == 10) text 0 h)))
    by (inr h) =
        let e : length text ≡ line_len text = omega (arith, h, within) in
        subst (IsCharBoundary text) e (IsCharBoundary-end text)

-- a character has at most four bytes
encoded_few : (cs : List ℕ) → length (encode_utf8_all cs) ≤ 4 * length cs
encoded_few [] = omega arith
encoded_few (c ∷ cs) = omega (arith, encoded_few cs, length-append (encode_utf8 c) (encode_utf8_all cs), length-encode c, (len_utf8_bounds c).1)

pub chars_few : (text : List ℕ) → IsUtf8 text → length text ≤ 4 * length (chars text)
chars_few text utf8 = subst (λ l. length l ≤ 4 * length (chars text)) (encodes-chars text utf8) (encoded_few (chars text))

length_take : (n : ℕ) (xs : List ℕ) → n ≤ length xs → length (take n xs) ≡ n
length_take zero xs h = refl
length_take (suc n) [] h = absurd (omega (arith, h))
length_take (suc n) (x ∷ xs) h = omega (arith, length_take n xs (omega (arith, h)))

pub many_chars : (text : List ℕ) → IsUtf8 text → 960 < line_len text → longest_line < length (chars (before_first (λ b. b == 10) text))
many_chars text utf8 h =
    let few = chars_few (take (line_len text) text) (IsUtf8-take text (line_len text) utf8 (line_boundary text utf8)) in
    let whole = length_take (line_len text) text (prefix_len-le-length _ text) in
    omega (arith, few, whole, h)

-- ---- after the last line

none_after : (n : ℕ) (text : List ℕ) → after_lines n text ≡ [] → after_lines (suc n) text ≡ []
none_after n text e = ap (after_first (λ b. b == 10)) e

pub all_passed : (m n : ℕ) (text : List ℕ) → m ≤ n → after_lines m text ≡ [] → after_lines n text ≡ []
all_passed m zero text h e =
    let same : m ≡ zero = omega (arith, h) in
    subst (λ k. after_lines k text ≡ []) same e
all_passed m (suc n) text h e =
    ⊎_elim (λ lt. none_after n text (all_passed m n text (omega (arith, lt)) e)) (λ le. same (omega (arith, h, le))) (less m (suc n))
  where
    same : m ≡ suc n → after_lines (suc n) text ≡ []
    same is = subst (λ k. after_lines k text ≡ []) is e

pub passed_enough : (m n : ℕ) (text : List ℕ) → m ≤ n → n ≤ m → after_lines m text ≡ after_lines n text
passed_enough m n text low high =
    let same : m ≡ n = omega arith in
    ap (λ k. after_lines k text) same

pub empty : (xs : List ℕ) → (length xs == 0) ≡ true → xs ≡ []
empty [] e = refl
empty (x ∷ xs) e = absurd (none (length xs) e)
  where
    none : (n : ℕ) → (suc n == 0) ≡ true → ⊥
    none n h = grind (arith, nat_tests)
