-- Literal text before the token that ends it: whatever comes after that token, the elements are the same.
use Rattle.std.proofs.Common.{◌≡◌, ℕ, zero, suc, ◌-◌, ◌≤◌, ◌&&◌, ◌||◌, ◌==◌, not, Bool, true, false, List, [], ◌∷◌, ◌++◌, length, if◌then◌else◌, refl, sym, ap, ◌∙◌, arith, Option, Some, None}
use Rattle.std.specs.List.{list_all}
use Rattle.std.specs.Option.{option_map_or}
use Rattle.std.specs.Char.{is_ascii_hexdigit}
use Rattle.hcl_tokens.specs.Spelling.{starts, element_len, escape_len, are_elements, ends_quoted, is_dollar_or_percent, hex_digits_after}

-- a short front doesn't depend on the text after it
short_front : (w x y front : List ℕ) → length front ≤ length w → starts (w ++ x) front ≡ starts (w ++ y) front
short_front w x y [] le = refl
short_front [] x y (c ∷ front) le = absurd (omega arith)
short_front (b ∷ w) x y (c ∷ front) le = ap (λ v. (b == c) && v) (short_front w x y front (omega arith))

-- nor does one without the byte after
other_front : (p : List ℕ) (h : ℕ) (x y front : List ℕ) → list_all (λ c. not (h == c)) front ≡ true → starts (p ++ h ∷ x) front ≡ starts (p ++ h ∷ y) front
other_front p h x y [] f = refl
other_front [] h x y (c ∷ front) f = by (h == c) (starts x front) (starts y front) (list_all (λ c. not (h == c)) front) f
  where
    by : (v a b r : Bool) → (not v && r) ≡ true → (v && a) ≡ (v && b)
    by true a b r k = absurd (cc)
    by false a b r k = refl
other_front (b ∷ p) h x y (c ∷ front) f = ap (λ v. (b == c) && v) (other_front p h x y front (by (not (h == c)) (list_all (λ c. not (h == c)) front) f))
  where
    by : (v r : Bool) → (v && r) ≡ true → r ≡ true
    by true r k = k
    by false r k = absurd (cc)

-- hexadecimal digits end before any other byte
hexes_only : (n : ℕ) (p : List ℕ) (h : ℕ) (x y : List ℕ) → is_ascii_hexdigit h ≡ false → hex_digits_after n (p ++ h ∷ x) ≡ hex_digits_after n (p ++ h ∷ y)
hexes_only zero p h x y no_hex = refl
hexes_only (suc n) [] h x y no_hex = (λ i. no_hex i && hex_digits_after n x) ∙ sym (λ i. no_hex i && hex_digits_after n y)
hexes_only (suc n) (b ∷ p) h x y no_hex = ap (λ v. is_ascii_hexdigit b && v) (hexes_only n p h x y no_hex)

abbrev plain_escape : List ℕ → Bool
plain_escape text = starts text (92 ∷ 110 ∷ []) || starts text (92 ∷ 114 ∷ []) || starts text (92 ∷ 116 ∷ []) || starts text (92 ∷ 34 ∷ []) || starts text (92 ∷ 92 ∷ [])

abbrev escape_by : Bool → Bool → Bool → Option ℕ
escape_by a b c = if a then Some 2 else (if b then Some 6 else (if c then Some 10 else None))

no_second : (v w : Bool) → w ≡ false → (v && (w && true)) ≡ false
no_second true w e = ap (λ z. z && true) e
no_second false w e = refl

escape_only : (b : ℕ) (p : List ℕ) (h : ℕ) (x y : List ℕ) → (h == 117) ≡ false → (h == 85) ≡ false → is_ascii_hexdigit h ≡ false → escape_len (b ∷ (p ++ h ∷ x)) ≡ escape_len (b ∷ (p ++ h ∷ y))
escape_only b [] h x y no_u no_U no_hex =
    let u = no_second (b == 92) (h == 117) no_u in
    let v = no_second (b == 92) (h == 85) no_U in
    (λ i. escape_by (plain_escape (b ∷ h ∷ x)) (u i && hex_digits_after 4 x) (v i && hex_digits_after 8 x))
    ∙ sym (λ i. escape_by (plain_escape (b ∷ h ∷ y)) (u i && hex_digits_after 4 y) (v i && hex_digits_after 8 y))
escape_only b (c ∷ p) h x y no_u no_U no_hex =
    λ i. escape_by (plain_escape (b ∷ c ∷ (p ++ h ∷ x))) (starts (b ∷ c ∷ (p ++ h ∷ x)) (92 ∷ 117 ∷ []) && hexes_only 4 p h x y no_hex i) (starts (b ∷ c ∷ (p ++ h ∷ x)) (92 ∷ 85 ∷ []) && hexes_only 8 p h x y no_hex i)

abbrev onward : Bool → ℕ → List ℕ → Option ℕ → Option ℕ
onward quoted b after e =
    if starts (b ∷ after) (36 ∷ 36 ∷ 123 ∷ []) || starts (b ∷ after) (37 ∷ 37 ∷ 123 ∷ []) then Some 3
    else (if is_dollar_or_percent b then (if starts after (123 ∷ []) then None else Some 1)
    else (if quoted && ends_quoted b after then e else Some 1))

-- the token after literal text: a quote, or `${` or `%{`
pub data CloseAlike (x y : List ℕ) : Type 0 where
  quote : (x' y' : List ℕ) → x ≡ 34 ∷ x' → y ≡ 34 ∷ y' → CloseAlike x y
  dollar : (x' y' : List ℕ) → x ≡ 36 ∷ 123 ∷ x' → y ≡ 36 ∷ 123 ∷ y' → CloseAlike x y
  percent : (x' y' : List ℕ) → x ≡ 37 ∷ 123 ∷ x' → y ≡ 37 ∷ 123 ∷ y' → CloseAlike x y

quote_only : (quoted : Bool) (b : ℕ) (p x y : List ℕ) → element_len quoted (b ∷ (p ++ 34 ∷ x)) ≡ element_len quoted (b ∷ (p ++ 34 ∷ y))
quote_only quoted b [] x y = ap (onward quoted b (34 ∷ x)) (escape_only b [] 34 x y refl refl refl)
quote_only quoted b (c ∷ []) x y = ap (onward quoted b (c ∷ 34 ∷ x)) (escape_only b (c ∷ []) 34 x y refl refl refl)
quote_only quoted b (c ∷ d ∷ p) x y = ap (onward quoted b (c ∷ d ∷ (p ++ 34 ∷ x))) (escape_only b (c ∷ d ∷ p) 34 x y refl refl refl)

dollar_only : (quoted : Bool) (b : ℕ) (p x y : List ℕ) → element_len quoted (b ∷ (p ++ 36 ∷ 123 ∷ x)) ≡ element_len quoted (b ∷ (p ++ 36 ∷ 123 ∷ y))
dollar_only quoted b [] x y = ap (onward quoted b (36 ∷ 123 ∷ x)) (escape_only b [] 36 (123 ∷ x) (123 ∷ y) refl refl refl)
dollar_only quoted b (c ∷ []) x y = ap (onward quoted b (c ∷ 36 ∷ 123 ∷ x)) (escape_only b (c ∷ []) 36 (123 ∷ x) (123 ∷ y) refl refl refl)
dollar_only quoted b (c ∷ d ∷ p) x y = ap (onward quoted b (c ∷ d ∷ (p ++ 36 ∷ 123 ∷ x))) (escape_only b (c ∷ d ∷ p) 36 (123 ∷ x) (123 ∷ y) refl refl refl)

percent_only : (quoted : Bool) (b : ℕ) (p x y : List ℕ) → element_len quoted (b ∷ (p ++ 37 ∷ 123 ∷ x)) ≡ element_len quoted (b ∷ (p ++ 37 ∷ 123 ∷ y))
percent_only quoted b [] x y = ap (onward quoted b (37 ∷ 123 ∷ x)) (escape_only b [] 37 (123 ∷ x) (123 ∷ y) refl refl refl)
percent_only quoted b (c ∷ []) x y = ap (onward quoted b (c ∷ 37 ∷ 123 ∷ x)) (escape_only b (c ∷ []) 37 (123 ∷ x) (123 ∷ y) refl refl refl)
percent_only quoted b (c ∷ d ∷ p) x y = ap (onward quoted b (c ∷ d ∷ (p ++ 37 ∷ 123 ∷ x))) (escape_only b (c ∷ d ∷ p) 37 (123 ∷ x) (123 ∷ y) refl refl refl)

element_only : (quoted : Bool) (b : ℕ) (p x y : List ℕ) → CloseAlike x y → element_len quoted (b ∷ (p ++ x)) ≡ element_len quoted (b ∷ (p ++ y))
element_only quoted b p x y (quote x' y' e e') = ap (λ l. element_len quoted (b ∷ (p ++ l))) e ∙ quote_only quoted b p x' y' ∙ ap (λ l. element_len quoted (b ∷ (p ++ l))) (sym e')
element_only quoted b p x y (dollar x' y' e e') = ap (λ l. element_len quoted (b ∷ (p ++ l))) e ∙ dollar_only quoted b p x' y' ∙ ap (λ l. element_len quoted (b ∷ (p ++ l))) (sym e')
element_only quoted b p x y (percent x' y' e e') = ap (λ l. element_len quoted (b ∷ (p ++ l))) e ∙ percent_only quoted b p x' y' ∙ ap (λ l. element_len quoted (b ∷ (p ++ l))) (sym e')

abbrev goes_on : Bool → List ℕ → List ℕ → Option ℕ → Bool
goes_on quoted text rest o = option_map_or (λ n. are_elements quoted (n - 1) text rest) o false

each : (quoted : Bool) (text x y : List ℕ) (o : Option ℕ) → ((n : ℕ) → are_elements quoted n text x ≡ are_elements quoted n text y) → goes_on quoted text x o ≡ goes_on quoted text y o
each quoted text x y None f = refl
each quoted text x y (Some n) f = f (n - 1)

-- LITERAL TEXT stays literal text
pub literal_only : (quoted : Bool) (left : ℕ) (text x y : List ℕ) → CloseAlike x y → are_elements quoted left text x ≡ are_elements quoted left text y
literal_only quoted zero [] x y h = refl
literal_only quoted (suc left) [] x y h = refl
literal_only quoted (suc left) (b ∷ text) x y h = literal_only quoted left text x y h
literal_only quoted zero (b ∷ text) x y h =
    ap (goes_on quoted text x) (element_only quoted b text x y h) ∙ each quoted text x y (element_len quoted (b ∷ (text ++ y))) (λ n. literal_only quoted n text x y h)

pub ends_here : (y y' : List ℕ) → CloseAlike y' y → element_len true y ≡ None
ends_here y y' (quote a b e e') = ap (element_len true) e'
ends_here y y' (dollar a b e e') = ap (element_len true) e'
ends_here y y' (percent a b e e') = ap (element_len true) e'
