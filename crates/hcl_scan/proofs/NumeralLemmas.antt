-- The longest number at the front of a text, part by part.
use Rattle.std.proofs.Common.{◌≡◌, ℕ, zero, suc, ◌+◌, ◌<◌, ◌≤◌, ◌||◌, ◌==◌, not, Bool, true, false, List, [], ◌∷◌, ◌++◌, length, take, drop, if◌then◌else◌, get_or, ◌⊎◌, inl, inr, ⊎_elim, refl, sym, ap, subst, ◌∙◌, arith, length-append, append_assoc, length-take-le, add-zero}
use Rattle.std.specs.Char.{is_ascii_digit}
use Rattle.std.specs.List.{list_all}
use Rattle.std.proofs.lemmas.List.{take-append-drop, get_or_append_left, get_or-append-add}
use Rattle.std.proofs.lemmas.Bool.Decides.{nat_tests}
use Rattle.hcl_tokens.specs.Spelling.{IsDigits, IsSign, IsFraction, IsExponent, IsNumber}
use Rattle.hcl_scan.specs.Inner.Found.{IsLongestFront}
use Rattle.hcl_tokens.proofs.BooleanLemmas.{and_true}
use Rattle.hcl_scan.proofs.WordLemmas.{all_to}
use Rattle.hcl_scan.proofs.LongestFrontLemmas.{longest_is, front_dropped}

pub all_at : (q : ℕ → Bool) (xs : List ℕ) (k : ℕ) → k < length xs → list_all q xs ≡ true → q (get_or xs k 0) ≡ true
all_at q [] k lt h = absurd (omega arith)
all_at q (x ∷ xs) zero lt h = (and_true (q x) (list_all q xs) h).0
all_at q (x ∷ xs) (suc k) lt h = all_at q xs k (omega arith) (and_true (q x) (list_all q xs) h).1

-- the byte after a front
pub first_after : (front rest text : List ℕ) → front ++ rest ≡ text → get_or text (length front) 0 ≡ get_or rest 0 0
first_after front rest text e = sym (ap (λ t. get_or t (length front) 0) e) ∙ sym (ap (λ n. get_or (front ++ rest) n 0) (add-zero (length front))) ∙ get_or-append-add front rest 0 0

pub inside : (front rest text : List ℕ) (k : ℕ) → front ++ rest ≡ text → k < length front → get_or text k 0 ≡ get_or front k 0
inside front rest text k e lt = sym (ap (λ t. get_or t k 0) e) ∙ get_or_append_left front rest 0 k lt

-- the sign by the first byte
sign_text : ℕ → List ℕ
sign_text b = if b == 43 then 43 ∷ [] else (if b == 45 then 45 ∷ [] else [])

pub digit_head : (digits rest : List ℕ) → IsDigits digits → is_ascii_digit (get_or (digits ++ rest) 0 0) ≡ true
digit_head [] rest is = absurd (let some = is.0 in omega arith)
digit_head (b ∷ digits) rest is = (and_true (is_ascii_digit b) (list_all is_ascii_digit digits) is.1).0

no_sign : (b : ℕ) → is_ascii_digit b ≡ true → sign_text b ≡ []
unfolding sign_text
no_sign b h = grind (arith, nat_tests)

sign_is : (sign digits rest : List ℕ) → IsSign sign → IsDigits digits → sign ≡ sign_text (get_or (sign ++ (digits ++ rest)) 0 0)
unfolding sign_text
sign_is sign digits rest (inl e) is = e ∙ sym (ap (λ s. sign_text (get_or (s ++ (digits ++ rest)) 0 0)) e ∙ no_sign (get_or (digits ++ rest) 0 0) (digit_head digits rest is))
sign_is sign digits rest (inr (inl e)) is = e ∙ sym (ap (λ s. sign_text (get_or (s ++ (digits ++ rest)) 0 0)) e)
sign_is sign digits rest (inr (inr e)) is = e ∙ sym (ap (λ s. sign_text (get_or (s ++ (digits ++ rest)) 0 0)) e)

abbrev pub is_e : ℕ → Bool
is_e b = (b == 101) || (b == 69)

-- an exponent, if any, begins with its mark
pub record Powers (text : List ℕ) : Type 0 where
  pub mark : ℕ
  pub sign : List ℕ
  pub digits : List ℕ
  pub marked : is_e mark ≡ true
  pub signed : IsSign sign
  pub some : IsDigits digits
  pub whole : text ≡ mark ∷ (sign ++ digits)

pub powers : (text : List ℕ) → IsExponent text → (text ≡ []) ⊎ Powers text
powers text (inl e) = inl e
powers text (inr x) = inr (⊎_elim (λ e. of 101 refl e) (λ e. of 69 refl e) x.3)
  where
    of : (b : ℕ) → is_e b ≡ true → x.0 ≡ b ∷ [] → Powers text
    of b h e = record { mark = b; sign = x.1; digits = x.2; marked = h; signed = x.4; some = x.5; whole = x.6 ∙ append_assoc x.0 x.1 x.2 ∙ ap (λ m. m ++ (x.1 ++ x.2)) e }

e_mark : (b : ℕ) → is_e b ≡ true → (b ∷ [] ≡ 101 ∷ []) ⊎ (b ∷ [] ≡ 69 ∷ [])
e_mark b h = ⊎_elim (λ e. inl (ap (λ c. c ∷ []) e)) (λ e. inr (ap (λ c. c ∷ []) e)) (cases b h)
  where
    cases : (b : ℕ) → is_e b ≡ true → (b ≡ 101) ⊎ (b ≡ 69)
    cases b h = grind (arith, nat_tests)

pub exponent_found : (b : ℕ) (after : List ℕ) (sign digits : ℕ) → is_e b ≡ true → IsLongestFront IsSign after sign → IsLongestFront IsDigits (drop sign after) digits →
    IsLongestFront IsExponent (b ∷ after) (1 + sign + digits)
exponent_found b after sign digits h s d = longest_is IsExponent (b ∷ after) text rest (1 + sign + digits) len whole formed longest
  where
    power : List ℕ
    power = drop sign after

    signs : List ℕ
    signs = take sign after

    numerals : List ℕ
    numerals = take digits power

    rest : List ℕ
    rest = drop digits power

    text : List ℕ
    text = (b ∷ []) ++ signs ++ numerals

    power_is : numerals ++ rest ≡ power
    power_is = take-append-drop digits power

    after_is : signs ++ (numerals ++ rest) ≡ after
    after_is = ap (λ l. signs ++ l) power_is ∙ take-append-drop sign after

    whole : text ++ rest ≡ b ∷ after
    whole = ap (λ l. b ∷ l) (append_assoc signs numerals rest ∙ after_is)

    len : 1 + sign + digits ≡ length text
    len = omega (arith, length-take-le sign after s.within, length-take-le digits power d.within, length-append signs numerals)

    formed : IsExponent text
    formed = inr ((b ∷ [], signs, numerals, e_mark b h, s.formed, d.formed, refl))

    longest : (longer left : List ℕ) → longer ++ left ≡ b ∷ after → IsExponent longer → length longer ≤ length text
    longest longer left e is = ⊎_elim (λ none. omega (arith, ap length none)) more (powers longer is)
      where
        more : Powers longer → length longer ≤ length text
        more p =
            let tail : p.sign ++ (p.digits ++ left) ≡ after = sym (append_assoc p.sign p.digits left) ∙ ap (λ l. drop 1 (l ++ left)) (sym p.whole) ∙ ap (drop 1) e in
            let same : p.sign ≡ signs = sign_is p.sign p.digits left p.signed p.some ∙ ap (λ l. sign_text (get_or l 0 0)) (tail ∙ sym after_is) ∙ sym (sign_is signs numerals rest s.formed d.formed) in
            let at : length p.sign ≡ sign = ap length same ∙ length-take-le sign after s.within in
            let there : p.digits ++ left ≡ power = sym (front_dropped p.sign (p.digits ++ left) after tail) ∙ ap (λ n. drop n after) at in
            let most = d.longest p.digits left there p.some in
            omega (arith, len, at, most, ap length p.whole, length-append p.sign p.digits)

-- no exponent begins with another byte
no_exponent : (exponent left : List ℕ) → IsExponent exponent → is_e (get_or (exponent ++ left) 0 0) ≡ false → exponent ≡ []
no_exponent exponent left is h = ⊎_elim (λ e. e) more (powers exponent is)
  where
    more : Powers exponent → exponent ≡ []
    more p = let here : is_e p.mark ≡ false = ap (λ l. is_e (get_or (l ++ left) 0 0)) (sym p.whole) ∙ h in let yes = p.marked in absurd (cc)

no_fraction : (fraction left : List ℕ) → IsFraction fraction → is_ascii_digit (get_or (fraction ++ left) 0 0) ≡ true → fraction ≡ []
no_fraction fraction left (inl e) h = e
no_fraction fraction left (inr f) h = absurd (let here : is_ascii_digit 46 ≡ true = ap (λ l. is_ascii_digit (get_or (l ++ left) 0 0)) (sym f.2) ∙ h in cc)

digit_no_e : (b : ℕ) → is_ascii_digit b ≡ true → is_e b ≡ false
digit_no_e b h = grind (arith, nat_tests)

not_e : ℕ → Bool
not_e b = not (is_e b)

digit_not_e : (b : ℕ) → is_ascii_digit b ≡ true → not_e b ≡ true
unfolding not_e
digit_not_e b h = ap not (digit_no_e b h)

not_e_is : (b : ℕ) → not_e b ≡ true → is_e b ≡ false
unfolding not_e
not_e_is b h = flip (is_e b) h
  where
    flip : (v : Bool) → not v ≡ true → v ≡ false
    flip true h = cc
    flip false h = refl

fraction_no_e : (fraction : List ℕ) → IsFraction fraction → list_all not_e fraction ≡ true
unfolding not_e
fraction_no_e fraction (inl e) = ap (list_all not_e) e
fraction_no_e fraction (inr f) = ap (list_all not_e) f.2 ∙ all_to is_ascii_digit not_e digit_not_e f.0 f.1.1

below_or_same : (a b : ℕ) → a ≤ b → (a < b) ⊎ (a ≡ b)
below_or_same a b h = grind arith

pub number_found : (seen : List ℕ) (n m k : ℕ) → IsLongestFront IsDigits seen n → IsLongestFront IsFraction (drop n seen) m → IsLongestFront IsExponent (drop m (drop n seen)) k →
    IsLongestFront IsNumber seen (n + m + k)
number_found seen n m k d f x = longest_is IsNumber seen text rest (n + m + k) len whole formed longest
  where
    after_digits : List ℕ
    after_digits = drop n seen

    after_fraction : List ℕ
    after_fraction = drop m after_digits

    digits : List ℕ
    digits = take n seen

    fraction : List ℕ
    fraction = take m after_digits

    exponent : List ℕ
    exponent = take k after_fraction

    rest : List ℕ
    rest = drop k after_fraction

    text : List ℕ
    text = digits ++ fraction ++ exponent

    digits_len : length digits ≡ n
    digits_len = length-take-le n seen d.within

    fraction_len : length fraction ≡ m
    fraction_len = length-take-le m after_digits f.within

    whole : text ++ rest ≡ seen
    whole = append_assoc (digits ++ fraction) exponent rest ∙ append_assoc digits fraction (exponent ++ rest)
        ∙ ap (λ l. digits ++ (fraction ++ l)) (take-append-drop k after_fraction) ∙ ap (λ l. digits ++ l) (take-append-drop m after_digits) ∙ take-append-drop n seen

    len : n + m + k ≡ length text
    len = omega (arith, digits_len, fraction_len, length-take-le k after_fraction x.within, length-append digits fraction, length-append (digits ++ fraction) exponent)

    formed : IsNumber text
    formed = (digits, fraction, exponent, d.formed, f.formed, x.formed, refl)

    longest : (longer left : List ℕ) → longer ++ left ≡ seen → IsNumber longer → length longer ≤ length text
    longest longer left e is = ⊎_elim short full (below_or_same (length is.0) n (d.longest is.0 (is.1 ++ (is.2 ++ left)) split is.3))
      where
        split : is.0 ++ (is.1 ++ (is.2 ++ left)) ≡ seen
        split = sym (append_assoc is.0 is.1 (is.2 ++ left)) ∙ sym (append_assoc (is.0 ++ is.1) is.2 left) ∙ ap (λ l. l ++ left) (sym is.6) ∙ e

        total : length longer ≡ length is.0 + length is.1 + length is.2
        total = ap length is.6 ∙ length-append (is.0 ++ is.1) is.2 ∙ ap (λ a. a + length is.2) (length-append is.0 is.1)

        short : length is.0 < n → length longer ≤ length text
        short lt =
            let byte : is_ascii_digit (get_or (is.1 ++ (is.2 ++ left)) 0 0) ≡ true =
            ap is_ascii_digit (sym (first_after is.0 (is.1 ++ (is.2 ++ left)) seen split) ∙ inside digits after_digits seen (length is.0) (take-append-drop n seen) (omega (arith, digits_len)))
            ∙ all_at is_ascii_digit digits (length is.0) (omega (arith, digits_len)) d.formed.1 in
            let none = no_fraction is.1 (is.2 ++ left) is.4 byte in
            let no_power = no_exponent is.2 left is.5 (ap (λ l. is_e (get_or (l ++ (is.2 ++ left)) 0 0)) (sym none) ∙ digit_no_e (get_or (is.1 ++ (is.2 ++ left)) 0 0) byte) in
            omega (arith, total, len, ap length none, ap length no_power)

        full : length is.0 ≡ n → length longer ≤ length text
        full same = ⊎_elim less equal (below_or_same (length is.1) m (f.longest is.1 (is.2 ++ left) there is.4))
          where
            there : is.1 ++ (is.2 ++ left) ≡ after_digits
            there = sym (front_dropped is.0 (is.1 ++ (is.2 ++ left)) seen split) ∙ ap (λ a. drop a seen) same

            less : length is.1 < m → length longer ≤ length text
            less lt =
                let byte : is_e (get_or (is.2 ++ left) 0 0) ≡ false =
                ap is_e (sym (first_after is.1 (is.2 ++ left) after_digits there) ∙ inside fraction after_fraction after_digits (length is.1) (take-append-drop m after_digits) (omega (arith, fraction_len)))
                ∙ not_e_is (get_or fraction (length is.1) 0) (all_at not_e fraction (length is.1) (omega (arith, fraction_len)) (fraction_no_e fraction f.formed)) in
                let no_power = no_exponent is.2 left is.5 byte in
                omega (arith, total, len, ap length no_power)

            equal : length is.1 ≡ m → length longer ≤ length text
            equal at =
                let last : is.2 ++ left ≡ after_fraction = sym (front_dropped is.1 (is.2 ++ left) after_digits there) ∙ ap (λ a. drop a after_digits) at in
                let most = x.longest is.2 left last is.5 in
                omega (arith, total, len, most)

-- by the first bytes, as the scanner reads them
exponent_head : (seen : List ℕ) → is_e (get_or seen 0 0) ≡ true → seen ≡ get_or seen 0 0 ∷ drop 1 seen
exponent_head [] h = cc
exponent_head (b ∷ seen) h = refl

pub exponent_at : (seen after power : List ℕ) (sign digits : ℕ) → is_e (get_or seen 0 0) ≡ true → after ≡ drop 1 seen → power ≡ drop sign after → IsLongestFront IsSign after sign → IsLongestFront IsDigits power digits →
    IsLongestFront IsExponent seen (1 + sign + digits)
exponent_at seen after power sign digits h e e' s d =
    subst (λ l. IsLongestFront IsExponent l (1 + sign + digits)) (sym (exponent_head seen h ∙ ap (λ l. get_or seen 0 0 ∷ l) (sym e)))
    (exponent_found (get_or seen 0 0) after sign digits h s (subst (λ l. IsLongestFront IsDigits l digits) e' d))

pub number_at : (seen after_digits last : List ℕ) (n m k : ℕ) → after_digits ≡ drop n seen → last ≡ drop m after_digits → IsLongestFront IsDigits seen n → IsLongestFront IsFraction after_digits m → IsLongestFront IsExponent last k →
    IsLongestFront IsNumber seen (n + m + k)
number_at seen after_digits last n m k e e' d f x =
    number_found seen n m k d (subst (λ l. IsLongestFront IsFraction l m) e f) (subst (λ l. IsLongestFront IsExponent l k) (e' ∙ ap (drop m) e) x)
