-- The shown line takes no more bytes than the line.
use Rattle.std.proofs.Common.{◌≡◌, ◌∙◌, ◌+◌, ◌<◌, ◌≤◌, ℕ, suc, zero, Bool, true, false, List, [], ◌∷◌, ap, arith, get_or, length, length-append, map, subst, sym, take}
use Rattle.std.specs.Prelude.{◌++◌, Ok, Err, IsOk, OnOk, Result, encode_utf8, encode_utf8_all, if◌then◌else◌}
use Rattle.std.specs.Str.{chars, IsUtf8}
use Rattle.std.proofs.lemmas.List.{append-nil, map-append}
use Rattle.std.proofs.lemmas.Str.{encode_ascii, encodes-append, encodes-chars, length-encode, len_utf8_bounds}
use Rattle.source_snippet.specs.Snippets.{is_hidden, shown_char}

short_by : (v : Bool) (c : ℕ) → length (encode_utf8 (if v then 32 else c)) ≤ length (encode_utf8 c)
short_by true c = omega (arith, ap length (encode_ascii 32 (omega arith)), length-encode c, (len_utf8_bounds c).0)
short_by false c = omega arith

shown_short : (c : ℕ) → length (encode_utf8 (shown_char c)) ≤ length (encode_utf8 c)
shown_short c = short_by (is_hidden c) c

all_short : (cs : List ℕ) → length (encode_utf8_all (map shown_char cs)) ≤ length (encode_utf8_all cs)
all_short [] = omega arith
all_short (c ∷ cs) =
    omega (arith, shown_short c, all_short cs, length-append (encode_utf8 (shown_char c)) (encode_utf8_all (map shown_char cs)), length-append (encode_utf8 c) (encode_utf8_all cs))

-- those so far, and one more
more_short : (cs : List ℕ) (n c : ℕ) → n < length cs → c ≡ get_or cs n c → length (encode_utf8_all (map shown_char (take n cs))) + length (encode_utf8 (shown_char c)) ≤ length (encode_utf8_all cs)
more_short [] n c h is = absurd (omega (arith, h))
more_short (x ∷ cs) zero c h is =
    let same : length (encode_utf8 (shown_char c)) ≤ length (encode_utf8 x) = subst (λ d. length (encode_utf8 (shown_char c)) ≤ length (encode_utf8 d)) is (shown_short c) in
    omega (arith, same, length-append (encode_utf8 x) (encode_utf8_all cs))
more_short (x ∷ cs) (suc n) c h is =
    omega (arith, shown_short x, more_short cs n c (omega (arith, h)) is, length-append (encode_utf8 (shown_char x)) (encode_utf8_all (map shown_char (take n cs))), length-append (encode_utf8 x) (encode_utf8_all cs))

-- there is room for the next character of a text
pub next_fits : (text bytes seen : List ℕ) (c most : ℕ) → IsUtf8 text → length text ≤ most → seen ≡ take (length seen) (chars text) → bytes ≡ encode_utf8_all (map shown_char seen) → length seen < length (chars text) → c ≡ get_or (chars text) (length seen) c
    → length bytes + length (encode_utf8 (shown_char c)) ≤ most
next_fits text bytes seen c most utf8 within so_far is h next =
    let front : length bytes ≡ length (encode_utf8_all (map shown_char (take (length seen) (chars text)))) = ap length is ∙ ap (λ l. length (encode_utf8_all (map shown_char l))) so_far in
    omega (arith, within, front, more_short (chars text) (length seen) c h next, ap length (encodes-chars text utf8))

-- it is appended to those so far
pub shown_more : (seen bytes new : List ℕ) (c d : ℕ) → bytes ≡ encode_utf8_all (map shown_char seen) → d ≡ shown_char c → new ≡ bytes ++ encode_utf8 d → new ≡ encode_utf8_all (map shown_char (seen ++ c ∷ []))
shown_more seen bytes new c d is shows added =
    added ∙ (λ i. is i ++ encode_utf8 (shows i)) ∙ ap (λ l. encode_utf8_all (map shown_char seen) ++ l) (sym (append-nil (encode_utf8 (shown_char c))))
    ∙ sym (ap encode_utf8_all (map-append shown_char seen (c ∷ [])) ∙ encodes-append (map shown_char seen) (shown_char c ∷ []))

-- ---- a call that can't fail

pub on_ok : {A E : Type 0} (r : Result A E) (P : Type 0) → IsOk r → OnOk r P → P
on_ok (Ok a) P ok h = h
on_ok (Err e) P ok h = absurd (cc)
