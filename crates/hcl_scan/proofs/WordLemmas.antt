-- Identifiers and numbers, byte by byte.
use Rattle.std.proofs.Common.{◌≡◌, ℕ, ◌+◌, ◌/◌, ◌%◌, ◌<◌, ◌≤◌, ◌&&◌, ◌||◌, ◌==◌, not, Bool, true, false, cond, List, [], ◌∷◌, ◌++◌, length, if◌then◌else◌, get_or, ◌⊎◌, inl, inr, ⊎_elim, refl, sym, ap, ◌∙◌, arith, append_assoc}
use Rattle.std.specs.Prelude.{nat_le, nat_lt, encode_utf8_all, encode_utf8}
use Rattle.std.specs.List.{list_all}
use Rattle.std.specs.Char.{is_ascii_digit, is_ascii_alphanumeric, is_ascii_alphabetic}
use Rattle.std.proofs.lemmas.Bool.Decides.{nat_tests}
use lib.Utf8.{next, encode}
use Rattle.unicode_ident.specs.Ident.{is_xid_start}
use Rattle.unicode_ident.proofs.IdentLemmas.{is_xid_start-ascii, is_xid_continue-ascii, is_xid_start-is_xid_continue}
use Rattle.hcl_tokens.specs.Spelling.{IsIdent, are_ident, starts_ident, continues_ident, IsDigits, IsExponent, IsSign, IsNumber}
use Rattle.hcl_tokens.proofs.BooleanLemmas.{and_true}

-- a byte of an identifier
abbrev pub is_word : ℕ → Bool
is_word b = is_ascii_alphanumeric b || (b == 95) || (b == 45) || nat_le 128 b

-- a byte that begins one
abbrev pub begins_word : ℕ → Bool
begins_word b = is_ascii_alphabetic b || (b == 95) || nat_le 128 b

high_word : (b : ℕ) → 128 ≤ b → is_word b ≡ true
high_word b h = grind (arith, nat_tests)

high_begins : (b : ℕ) → 128 ≤ b → begins_word b ≡ true
high_begins b h = grind (arith, nat_tests)

abbrev Bytes : ℕ → List ℕ → Type 0
Bytes c text = (first : ℕ) × (more : List ℕ) × (text ≡ first ∷ more) × (c < 128 → (first ≡ c) × (more ≡ [])) × (128 ≤ c → 128 ≤ first) × (list_all (λ b. nat_le 128 b) more ≡ true)

le_true : (a b : ℕ) → a ≤ b → nat_le a b ≡ true
le_true a b h = grind (arith, nat_tests)

lt_true : (a b : ℕ) → nat_lt a b ≡ true → a < b
lt_true a b h = grind (arith, nat_tests)

lt_false : (a b : ℕ) → nat_lt a b ≡ false → b ≤ a
lt_false a b h = grind (arith, nat_tests)

encoded : (c : ℕ) → Bytes c (encode_utf8 c)
unfolding encode
encoded c = by (nat_lt c 128) refl
  where
    tail1 : (a : ℕ) → list_all (λ b. nat_le 128 b) ((128 + a) ∷ []) ≡ true
    tail1 a = λ i. le_true 128 (128 + a) (omega arith) i && true

    tail2 : (a a' : ℕ) → list_all (λ b. nat_le 128 b) ((128 + a) ∷ (128 + a') ∷ []) ≡ true
    tail2 a a' = λ i. le_true 128 (128 + a) (omega arith) i && tail1 a' i

    tail3 : (a a' a'' : ℕ) → list_all (λ b. nat_le 128 b) ((128 + a) ∷ (128 + a') ∷ (128 + a'') ∷ []) ≡ true
    tail3 a a' a'' = λ i. le_true 128 (128 + a) (omega arith) i && tail2 a' a'' i

    two : 128 ≤ c → Bytes c ((192 + c / 64) ∷ next c ∷ [])
    two h = (192 + c / 64, next c ∷ [], refl, (λ lt. absurd (omega (arith, lt, h))), (λ _. omega arith), tail1 (c % 64))

    three : 128 ≤ c → Bytes c ((224 + c / 4096) ∷ next (c / 64) ∷ next c ∷ [])
    three h = (224 + c / 4096, next (c / 64) ∷ next c ∷ [], refl, (λ lt. absurd (omega (arith, lt, h))), (λ _. omega arith), tail2 (c / 64 % 64) (c % 64))

    four : 128 ≤ c → Bytes c ((240 + c / 262144) ∷ next (c / 4096) ∷ next (c / 64) ∷ next c ∷ [])
    four h = (240 + c / 262144, next (c / 4096) ∷ next (c / 64) ∷ next c ∷ [], refl, (λ lt. absurd (omega (arith, lt, h))), (λ _. omega arith), tail3 (c / 4096 % 64) (c / 64 % 64) (c % 64))

    third : (v w : Bool) → 128 ≤ c → Bytes c (cond v ((192 + c / 64) ∷ next c ∷ []) (cond w ((224 + c / 4096) ∷ next (c / 64) ∷ next c ∷ []) ((240 + c / 262144) ∷ next (c / 4096) ∷ next (c / 64) ∷ next c ∷ [])))
    third true w h = two h
    third false true h = three h
    third false false h = four h

    by : (v : Bool) → nat_lt c 128 ≡ v → Bytes c (cond v (c ∷ []) (cond (nat_lt c 2048) ((192 + c / 64) ∷ next c ∷ []) (cond (nat_lt c 65536) ((224 + c / 4096) ∷ next (c / 64) ∷ next c ∷ []) ((240 + c / 262144) ∷ next (c / 4096) ∷ next (c / 64) ∷ next c ∷ []))))
    by true e = (c, [], refl, (λ _. (refl, refl)), (λ h. h), refl)
    by false e = third (nat_lt c 2048) (nat_lt c 65536) (lt_false c 128 e)

pub all_append : (q : ℕ → Bool) (xs ys : List ℕ) → list_all q xs ≡ true → list_all q ys ≡ true → list_all q (xs ++ ys) ≡ true
all_append q [] ys h k = k
all_append q (x ∷ xs) ys h k = let p = and_true (q x) (list_all q xs) h in let rec = all_append q xs ys p.1 k in λ i. p.0 i && rec i

pub all_to : (p q : ℕ → Bool) → ((b : ℕ) → p b ≡ true → q b ≡ true) → (xs : List ℕ) → list_all p xs ≡ true → list_all q xs ≡ true
all_to p q to [] h = refl
all_to p q to (x ∷ xs) h = let r = and_true (p x) (list_all p xs) h in let rec = all_to p q to xs r.1 in λ i. to x r.0 i && rec i

le_of : (a b : ℕ) → nat_le a b ≡ true → a ≤ b
le_of a b h = grind (arith, nat_tests)

ascii_word : (c : ℕ) → c < 128 → continues_ident c ≡ true → is_word c ≡ true
ascii_word c lt h = let e = is_xid_continue-ascii c lt in let k : ((is_ascii_alphanumeric c || (c == 95)) || (c == 45)) ≡ true = ap (λ b. b || (c == 45)) (sym e) ∙ h in grind (arith, nat_tests, k)

word_bytes : (c : ℕ) → continues_ident c ≡ true → list_all is_word (encode_utf8 c) ≡ true
word_bytes c h =
    let e = encoded c in
    let more = all_to (λ b. nat_le 128 b) is_word (λ b k. high_word b (le_of 128 b k)) e.1 e.5 in
    let first : is_word e.0 ≡ true = ⊎_elim (λ lt. ap is_word (e.3 lt).0 ∙ ascii_word c lt h) (λ ge. high_word e.0 (e.4 ge)) (below c 128) in
    ap (list_all is_word) e.2 ∙ (λ i. first i && more i)
  where
    below : (a b : ℕ) → (a < b) ⊎ (b ≤ a)
    below a b = grind arith

continue_bytes : (cs : List ℕ) → list_all continues_ident cs ≡ true → list_all is_word (encode_utf8_all cs) ≡ true
continue_bytes [] h = refl
continue_bytes (c ∷ cs) h = let p = and_true (continues_ident c) (list_all continues_ident cs) h in all_append is_word (encode_utf8 c) (encode_utf8_all cs) (word_bytes c p.0) (continue_bytes cs p.1)

-- the bytes of an identifier
pub record IsWord (text : List ℕ) : Type 0 where
  pub first : ℕ
  pub more : List ℕ
  pub whole : text ≡ first ∷ more
  pub begins : begins_word first ≡ true
  pub words : list_all is_word text ≡ true

start_begins : (c : ℕ) → starts_ident c ≡ true → (c < 128 → begins_word c ≡ true) × (continues_ident c ≡ true)
start_begins c h = ((λ lt. let e = is_xid_start-ascii c lt in let k : (is_ascii_alphabetic c || (c == 95)) ≡ true = ap (λ b. b || (c == 95)) (sym e) ∙ h in grind (arith, nat_tests, k)), by (is_xid_start c) refl h)
  where
    by : (v : Bool) → is_xid_start c ≡ v → (v || (c == 95)) ≡ true → continues_ident c ≡ true
    by true e k = ap (λ b. b || (c == 45)) (is_xid_start-is_xid_continue c e)
    by false e k = let c_is : c ≡ 95 = grind (arith, nat_tests) in ap continues_ident c_is ∙ ap (λ b. b || (95 == 45)) (is_xid_continue-ascii 95 (omega arith))

pub ident_word : (text : List ℕ) → IsIdent text → IsWord text
ident_word text is = by is.0 is.2 is.3
  where
    by : (cs : List ℕ) → are_ident cs ≡ true → text ≡ encode_utf8_all cs → IsWord text
    by [] h e = absurd (cc)
    by (c ∷ cs) h e =
        let p = and_true (starts_ident c) (list_all continues_ident cs) h in
        let s = start_begins c p.0 in
        let b = encoded c in
        record {
          first = b.0;
          more = b.1 ++ encode_utf8_all cs;
          whole = e ∙ ap (λ l. l ++ encode_utf8_all cs) b.2;
          begins = ⊎_elim (λ lt. ap begins_word (b.3 lt).0 ∙ s.0 lt) (λ ge. high_begins b.0 (b.4 ge)) (below c 128);
          words = ap (list_all is_word) e ∙ all_append is_word (encode_utf8 c) (encode_utf8_all cs) (word_bytes c s.1) (continue_bytes cs p.1);
        }
      where
        below : (a b : ℕ) → (a < b) ⊎ (b ≤ a)
        below a b = grind arith

-- a number, by states
pub data Stage : Type 0 where
  Whole : Stage
  Point : Stage
  Fraction : Stage
  Mark : Stage
  Sign : Stage
  Power : Stage

abbrev is_e : ℕ → Bool
is_e b = (b == 101) || (b == 69)

abbrev is_pm : ℕ → Bool
is_pm b = (b == 43) || (b == 45)

-- whether the bytes end a number at this place
abbrev pub ends_number : Stage → List ℕ → Bool
ends_number Whole [] = true
ends_number Fraction [] = true
ends_number Power [] = true
ends_number _ [] = false
ends_number Whole (b ∷ bs) = if is_ascii_digit b then ends_number Whole bs else (if b == 46 then ends_number Point bs else (is_e b && ends_number Mark bs))
ends_number Point (b ∷ bs) = is_ascii_digit b && ends_number Fraction bs
ends_number Fraction (b ∷ bs) = if is_ascii_digit b then ends_number Fraction bs else (is_e b && ends_number Mark bs)
ends_number Mark (b ∷ bs) = if is_ascii_digit b then ends_number Power bs else (is_pm b && ends_number Sign bs)
ends_number Sign (b ∷ bs) = is_ascii_digit b && ends_number Power bs
ends_number Power (b ∷ bs) = is_ascii_digit b && ends_number Power bs

-- after a number there is neither a digit nor `e` nor `E` nor a point with a digit
abbrev pub stops_number : List ℕ → Bool
stops_number [] = true
stops_number (b ∷ bs) = not (is_ascii_digit b) && not (is_e b) && (not (b == 46) || not (is_ascii_digit (get_or bs 0 0)))

whole_stuck : (d e p x a b c : Bool) → (not d && not e && (not p || not x)) ≡ true → cond d a (cond p (x && b) (e && c)) ≡ true → ⊥
whole_stuck true e p x a b c h k = cc
whole_stuck false true p x a b c h k = cc
whole_stuck false false true true a b c h k = cc
whole_stuck false false true false a b c h k = cc
whole_stuck false false false x a b c h k = cc

whole_end : (d e p x a c : Bool) → (not d && not e && (not p || not x)) ≡ true → cond d a (cond p false (e && c)) ≡ true → ⊥
whole_end true e p x a c h k = cc
whole_end false true p x a c h k = cc
whole_end false false true x a c h k = cc
whole_end false false false x a c h k = cc

fraction_stuck : (d e x a c : Bool) → (not d && not e && x) ≡ true → cond d a (e && c) ≡ true → ⊥
fraction_stuck true e x a c h k = cc
fraction_stuck false true x a c h k = cc
fraction_stuck false false x a c h k = cc

power_stuck : (d e x a : Bool) → (not d && e && x) ≡ true → (d && a) ≡ true → ⊥
power_stuck true e x a h k = cc
power_stuck false e x a h k = cc

stuck_number : (st : Stage) → ends_number st [] ≡ true → (bs left : List ℕ) → stops_number (bs ++ left) ≡ true → 0 < length bs → ends_number st bs ≡ true → ⊥
stuck_number Whole a [] left h some k = omega arith
stuck_number Whole a (b ∷ []) left h some k = whole_end (is_ascii_digit b) (is_e b) (b == 46) (is_ascii_digit (get_or left 0 0)) (ends_number Whole []) (ends_number Mark []) h k
stuck_number Whole a (b ∷ c ∷ bs) left h some k = whole_stuck (is_ascii_digit b) (is_e b) (b == 46) (is_ascii_digit c) (ends_number Whole (c ∷ bs)) (ends_number Fraction bs) (ends_number Mark (c ∷ bs)) h k
stuck_number Fraction a [] left h some k = omega arith
stuck_number Fraction a (b ∷ bs) left h some k = fraction_stuck (is_ascii_digit b) (is_e b) (not (b == 46) || not (is_ascii_digit (get_or (bs ++ left) 0 0))) (ends_number Fraction bs) (ends_number Mark bs) h k
stuck_number Power a [] left h some k = omega arith
stuck_number Power a (b ∷ bs) left h some k = power_stuck (is_ascii_digit b) (not (is_e b)) (not (b == 46) || not (is_ascii_digit (get_or (bs ++ left) 0 0))) (ends_number Power bs) h k
stuck_number Point a bs left h some k = absurd (cc)
stuck_number Mark a bs left h some k = absurd (cc)
stuck_number Sign a bs left h some k = absurd (cc)

cond_both : (v a b a' b' : Bool) → (a ≡ true → a' ≡ true → ⊥) → (b ≡ true → b' ≡ true → ⊥) → cond v a b ≡ true → cond v a' b' ≡ true → ⊥
cond_both true a b a' b' f g h k = f h k
cond_both false a b a' b' f g h k = g h k

and_both : (v a a' : Bool) → (a ≡ true → a' ≡ true → ⊥) → (v && a) ≡ true → (v && a') ≡ true → ⊥
and_both true a a' f h k = f h k
and_both false a a' f h k = cc

-- a number can't continue after its end
pub no_longer_number : (st : Stage) (text bs left : List ℕ) → stops_number (bs ++ left) ≡ true → 0 < length bs → ends_number st text ≡ true → ends_number st (text ++ bs) ≡ true → ⊥
no_longer_number st [] bs left h some x y = stuck_number st x bs left h some y
no_longer_number Whole (b ∷ text) bs left h some x y = cond_both (is_ascii_digit b) _ _ _ _ (no_longer_number Whole text bs left h some)
    (cond_both (b == 46) _ _ _ _ (no_longer_number Point text bs left h some) (and_both (is_e b) _ _ (no_longer_number Mark text bs left h some))) x y
no_longer_number Point (b ∷ text) bs left h some x y = and_both (is_ascii_digit b) _ _ (no_longer_number Fraction text bs left h some) x y
no_longer_number Fraction (b ∷ text) bs left h some x y = cond_both (is_ascii_digit b) _ _ _ _ (no_longer_number Fraction text bs left h some) (and_both (is_e b) _ _ (no_longer_number Mark text bs left h some)) x y
no_longer_number Mark (b ∷ text) bs left h some x y = cond_both (is_ascii_digit b) _ _ _ _ (no_longer_number Power text bs left h some) (and_both (is_pm b) _ _ (no_longer_number Sign text bs left h some)) x y
no_longer_number Sign (b ∷ text) bs left h some x y = and_both (is_ascii_digit b) _ _ (no_longer_number Power text bs left h some) x y
no_longer_number Power (b ∷ text) bs left h some x y = and_both (is_ascii_digit b) _ _ (no_longer_number Power text bs left h some) x y

-- digits change nothing
over_digits : (st : Stage) → ((b : ℕ) (bs : List ℕ) → is_ascii_digit b ≡ true → ends_number st (b ∷ bs) ≡ ends_number st bs) → (digits more : List ℕ) → list_all is_ascii_digit digits ≡ true → ends_number st (digits ++ more) ≡ ends_number st more
over_digits st one [] more h = refl
over_digits st one (b ∷ digits) more h = let p = and_true (is_ascii_digit b) (list_all is_ascii_digit digits) h in one b (digits ++ more) p.0 ∙ over_digits st one digits more p.1

abbrev goes : Stage → ℕ → List ℕ → Stage → Type 0
goes st b bs st' = is_ascii_digit b ≡ true → ends_number st (b ∷ bs) ≡ ends_number st' bs

whole_goes : (b : ℕ) (bs : List ℕ) → goes Whole b bs Whole
whole_goes b bs h = ap (λ v. cond v (ends_number Whole bs) (cond (b == 46) (ends_number Point bs) (is_e b && ends_number Mark bs))) h

fraction_goes : (b : ℕ) (bs : List ℕ) → goes Fraction b bs Fraction
fraction_goes b bs h = ap (λ v. cond v (ends_number Fraction bs) (is_e b && ends_number Mark bs)) h

mark_goes : (b : ℕ) (bs : List ℕ) → goes Mark b bs Power
mark_goes b bs h = ap (λ v. cond v (ends_number Power bs) (is_pm b && ends_number Sign bs)) h

point_goes : (b : ℕ) (bs : List ℕ) → goes Point b bs Fraction
point_goes b bs h = ap (λ v. v && ends_number Fraction bs) h

sign_goes : (b : ℕ) (bs : List ℕ) → goes Sign b bs Power
sign_goes b bs h = ap (λ v. v && ends_number Power bs) h

power_goes : (b : ℕ) (bs : List ℕ) → goes Power b bs Power
power_goes b bs h = ap (λ v. v && ends_number Power bs) h

-- one digit or more, then as the second stage continues
some_digits : (st st' : Stage) → ((b : ℕ) (bs : List ℕ) → goes st b bs st') → ((b : ℕ) (bs : List ℕ) → goes st' b bs st') → (digits more : List ℕ) → 0 < length digits → list_all is_ascii_digit digits ≡ true → ends_number st (digits ++ more) ≡ ends_number st' more
some_digits st st' first one [] more some h = absurd (omega arith)
some_digits st st' first one (b ∷ digits) more some h = let p = and_true (is_ascii_digit b) (list_all is_ascii_digit digits) h in first b (digits ++ more) p.0 ∙ over_digits st' one digits more p.1

no_more : (l : List ℕ) → l ++ [] ≡ l
no_more [] = refl
no_more (b ∷ l) = ap (λ r. b ∷ r) (no_more l)

exponent_ends : (sign digits : List ℕ) → IsSign sign → IsDigits digits → ends_number Mark (sign ++ digits) ≡ true
exponent_ends sign digits s d = ⊎_elim
    (λ e. ap (λ l. ends_number Mark (l ++ digits)) e ∙ ap (ends_number Mark) (sym (no_more digits)) ∙ some_digits Mark Power mark_goes power_goes digits [] d.0 d.1)
    (λ o. ⊎_elim (λ e. ap (λ l. ends_number Mark (l ++ digits)) e ∙ signed) (λ e. ap (λ l. ends_number Mark (l ++ digits)) e ∙ signed) o) s
  where
    signed : ends_number Sign digits ≡ true
    signed = ap (ends_number Sign) (sym (no_more digits)) ∙ some_digits Sign Power sign_goes power_goes digits [] d.0 d.1

tail_ends : (st : Stage) → ((b : ℕ) (bs : List ℕ) → is_e b ≡ true → (b ≡ 101) ⊎ (b ≡ 69) → ends_number st (b ∷ bs) ≡ ends_number Mark bs) → ends_number st [] ≡ true → (exponent : List ℕ) → IsExponent exponent → ends_number st exponent ≡ true
tail_ends st punctuation done exponent (inl e) = ap (ends_number st) e ∙ done
tail_ends st punctuation done exponent (inr x) =
    let ends = exponent_ends x.1 x.2 x.4 x.5 in
    ap (ends_number st) (x.6 ∙ append_assoc x.0 x.1 x.2) ∙ ⊎_elim (λ e. ap (λ l. ends_number st (l ++ (x.1 ++ x.2))) e ∙ punctuation 101 (x.1 ++ x.2) refl (inl refl) ∙ ends) (λ e. ap (λ l. ends_number st (l ++ (x.1 ++ x.2))) e ∙ punctuation 69 (x.1 ++ x.2) refl (inr refl) ∙ ends) x.3

pub number_ends : (text : List ℕ) → IsNumber text → ends_number Whole text ≡ true
number_ends text is =
    ap (ends_number Whole) (is.6 ∙ append_assoc is.0 is.1 is.2) ∙ some_digits Whole Whole whole_goes whole_goes is.0 (is.1 ++ is.2) is.3.0 is.3.1 ∙ ⊎_elim
    (λ e. ap (λ l. ends_number Whole (l ++ is.2)) e ∙ tail_ends Whole marks_whole refl is.2 is.5)
    (λ f. ap (λ l. ends_number Whole (l ++ is.2)) f.2 ∙ some_digits Point Fraction point_goes fraction_goes f.0 is.2 f.1.0 f.1.1 ∙ tail_ends Fraction marks_fraction refl is.2 is.5) is.4
  where
    marks_whole : (b : ℕ) (bs : List ℕ) → is_e b ≡ true → (b ≡ 101) ⊎ (b ≡ 69) → ends_number Whole (b ∷ bs) ≡ ends_number Mark bs
    marks_whole b bs h (inl e) = ap (λ c. ends_number Whole (c ∷ bs)) e
    marks_whole b bs h (inr e) = ap (λ c. ends_number Whole (c ∷ bs)) e

    marks_fraction : (b : ℕ) (bs : List ℕ) → is_e b ≡ true → (b ≡ 101) ⊎ (b ≡ 69) → ends_number Fraction (b ∷ bs) ≡ ends_number Mark bs
    marks_fraction b bs h (inl e) = ap (λ c. ends_number Fraction (c ∷ bs)) e
    marks_fraction b bs h (inr e) = ap (λ c. ends_number Fraction (c ∷ bs)) e
