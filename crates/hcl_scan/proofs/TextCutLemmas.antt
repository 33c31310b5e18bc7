-- A text may be cut after an ASCII byte.
use Rattle.std.proofs.Common.{◌≡◌, ℕ, ◌+◌, ◌-◌, ◌<◌, ◌≤◌, ◌&&◌, ◌==◌, not, Bool, true, false, List, [], ◌∷◌, ◌++◌, length, take, drop, get_or, ◌⊎◌, inl, inr, ⊎_elim, refl, sym, ap, subst, ◌∙◌, arith, IsUtf8, length-append, append_assoc, length-take-le}
use Rattle.std.specs.Prelude.{nat_lt}
use Rattle.std.specs.List.{list_all, prefix_len}
use Rattle.std.specs.Str.{IsCharBoundary}
use Rattle.std.specs.Char.{is_ascii_digit}
use Rattle.std.proofs.lemmas.Str.{IsCharBoundary-after_ascii, IsCharBoundary-before_ascii, IsCharBoundary-start, IsCharBoundary-end}
use Rattle.std.proofs.lemmas.List.{take-append-drop, get_or-append-add}
use Rattle.std.proofs.lemmas.List.Folds.{list_all-append}
use Rattle.std.proofs.lemmas.Bool.{cases_order}
use Rattle.std.proofs.lemmas.List.Sums.{prefix_len-le-length, prefix_len_passes, prefix_len_stops}
use Rattle.std.proofs.lemmas.Bool.Decides.{nat_tests}
use Rattle.hcl_tokens.specs.Spelling.{punctuation, IsPunctuation, IsNewline, IsDigits, IsSign, IsFraction, IsExponent, IsInlineComment, IsHeredocOpen, is_blank}
use Rattle.hcl_scan.specs.Inner.Found.{BlankText, NumberText, CloserText}
use Rattle.hcl_tokens.specs.declared.token.Kind.{Kind}
use Rattle.hcl_scan.proofs.WordLemmas.{all_to}
use Rattle.hcl_scan.proofs.WayLemmas.{mark_passes}
use Rattle.hcl_scan.proofs.NumeralLemmas.{all_at, inside, powers, Powers, is_e}
use Rattle.hcl_scan.proofs.CommentTextLemmas.{goes_on}

abbrev pub is_low : ℕ → Bool
is_low b = nat_lt b 128

-- the text ends in ASCII bytes
pub record EndsLow (text : List ℕ) : Type 0 where
  pub before : List ℕ
  pub end : List ℕ
  pub whole : text ≡ before ++ end
  pub some : 0 < length end
  pub low : list_all is_low end ≡ true

lt_of : (a b : ℕ) → nat_lt a b ≡ true → a < b
lt_of a b h = grind (arith, nat_tests)

pub low_cut : (seen : List ℕ) (n : ℕ) → IsUtf8 seen → n ≤ length seen → EndsLow (take n seen) → IsCharBoundary seen n
low_cut seen n utf8 within e =
    let len : n ≡ length e.before + length e.end = sym (length-take-le n seen within) ∙ ap length e.whole ∙ length-append e.before e.end in
    let last : ℕ = length e.end - 1 in
    let at : n - 1 ≡ length e.before + last = omega (arith, len, e.some) in
    let byte : get_or seen (n - 1) 0 ≡ get_or e.end last 0 =
    inside (take n seen) (drop n seen) seen (n - 1) (take-append-drop n seen) (omega (arith, length-take-le n seen within, len, e.some))
    ∙ (λ i. get_or (e.whole i) (at i) 0) ∙ get_or-append-add e.before e.end last 0 in
    let low = lt_of (get_or e.end last 0) 128 (all_at is_low e.end last (omega (arith, e.some)) e.low) in
    let next : n - 1 + 1 ≡ n = omega (arith, len, e.some) in
    subst (IsCharBoundary seen) next (IsCharBoundary-after_ascii seen (n - 1) utf8 (omega (arith, len, e.some, within)) (omega (arith, byte, low)))

-- after a run of ASCII bytes
pub run_cut : (q : ℕ → Bool) → ((b : ℕ) → q b ≡ true → b < 128) → (seen : List ℕ) → IsUtf8 seen → IsCharBoundary seen (prefix_len q seen)
run_cut q ascii seen utf8 =
    ⊎_elim (λ none. subst (IsCharBoundary seen) (sym none) (IsCharBoundary-start seen utf8))
    (λ other. ⊎_elim (λ neg. absurd (omega arith))
    (λ some.
    let n : ℕ = prefix_len q seen in
    let back : n - 1 + 1 ≡ n = omega arith in
    let le : n ≤ length seen = prefix_len-le-length q seen in
    subst (IsCharBoundary seen) back (IsCharBoundary-after_ascii seen (n - 1) utf8 (omega (arith, le)) (ascii (get_or seen (n - 1) 0) (prefix_len_passes q seen (n - 1) 0 (omega arith)))))
    other)
    (cases_order (prefix_len q seen) 0)

-- before an LF, or at the end
pub line_cut : (seen : List ℕ) (n : ℕ) → n ≡ prefix_len goes_on seen → IsCharBoundary seen n
line_cut seen n e = ⊎_elim
    (λ lt. let stop = prefix_len_stops goes_on seen 0 (omega (arith, e, lt)) in
    subst (IsCharBoundary seen) (sym e) (IsCharBoundary-before_ascii seen (prefix_len goes_on seen) (omega (arith, e, lt)) (is_lf (get_or seen (prefix_len goes_on seen) 0) stop)))
    (λ ge. subst (IsCharBoundary seen) (at_end ge) (IsCharBoundary-end seen))
    (either n (length seen))
  where
    either : (a b : ℕ) → (a < b) ⊎ (b ≤ a)
    either a b = grind arith

    at_end : length seen ≤ n → length seen ≡ n
    at_end ge = omega (arith, e, ge, prefix_len-le-length goes_on seen)

    is_lf : (b : ℕ) → not (b == 10) ≡ false → b < 128
    is_lf b h = grind (arith, nat_tests)

-- the forms that end in an ASCII byte
all_low : (text : List ℕ) → 0 < length text → list_all is_low text ≡ true → EndsLow text
all_low text some low = record { before = []; end = text; whole = refl; some = some; low = low }

pub newline_low : (text : List ℕ) → IsNewline text → EndsLow text
newline_low text (inl e) = all_low text (omega (arith, ap length e)) (ap (list_all is_low) e)
newline_low text (inr e) = all_low text (omega (arith, ap length e)) (ap (list_all is_low) e)

blank_low : (b : ℕ) → is_blank b ≡ true → is_low b ≡ true
blank_low b h = grind (arith, nat_tests)

digit_low : (b : ℕ) → is_ascii_digit b ≡ true → is_low b ≡ true
digit_low b h = grind (arith, nat_tests)

e_low : (b : ℕ) → is_e b ≡ true → is_low b ≡ true
e_low b h = grind (arith, nat_tests)

pub blanks_low : (inside : Bool) (text : List ℕ) → BlankText inside text → EndsLow text
blanks_low true text is = all_low text is.0 (all_to is_blank is_low blank_low text is.1)
blanks_low false text is = absurd is

both_low : (xs ys : List ℕ) → list_all is_low xs ≡ true → list_all is_low ys ≡ true → list_all is_low (xs ++ ys) ≡ true
both_low xs ys x y = list_all-append is_low xs ys ∙ (λ i. x i && y i)

digits_low : (text : List ℕ) → IsDigits text → list_all is_low text ≡ true
digits_low text is = all_to is_ascii_digit is_low digit_low text is.1

fraction_low : (text : List ℕ) → IsFraction text → list_all is_low text ≡ true
fraction_low text (inl e) = ap (list_all is_low) e
fraction_low text (inr f) = ap (list_all is_low) f.2 ∙ digits_low f.0 f.1

sign_low : (text : List ℕ) → IsSign text → list_all is_low text ≡ true
sign_low text (inl e) = ap (list_all is_low) e
sign_low text (inr (inl e)) = ap (list_all is_low) e
sign_low text (inr (inr e)) = ap (list_all is_low) e

exponent_low : (text : List ℕ) → IsExponent text → list_all is_low text ≡ true
exponent_low text is = ⊎_elim (λ e. ap (list_all is_low) e) more (powers text is)
  where
    more : Powers text → list_all is_low text ≡ true
    more p = let tail = both_low p.sign p.digits (sign_low p.sign p.signed) (digits_low p.digits p.some) in let mark = e_low p.mark p.marked in ap (list_all is_low) p.whole ∙ (λ i. mark i && tail i)

pub number_low : (dot : Bool) (text : List ℕ) → NumberText dot text → EndsLow text
number_low true text is = all_low text is.0 (digits_low text is)
number_low false text is =
    all_low text (omega (arith, ap length is.6, length-append (is.0 ++ is.1) is.2, length-append is.0 is.1, is.3.0))
    (ap (list_all is_low) is.6 ∙ both_low (is.0 ++ is.1) is.2 (both_low is.0 is.1 (digits_low is.0 is.3) (fraction_low is.1 is.4)) (exponent_low is.2 is.5))

pub inline_low : (text : List ℕ) → IsInlineComment text → EndsLow text
inline_low text is = record { before = (47 ∷ 42 ∷ []) ++ is.0; end = 42 ∷ 47 ∷ []; whole = is.1; some = omega arith; low = refl }

pub heredoc_low : (text : List ℕ) → IsHeredocOpen text → EndsLow text
heredoc_low text is = let n = newline_low is.2 is.5 in
    record { before = (((60 ∷ 60 ∷ []) ++ is.0) ++ is.1) ++ n.before; end = n.end; whole = is.6 ∙ ap (λ l. (((60 ∷ 60 ∷ []) ++ is.0) ++ is.1) ++ l) n.whole ∙ sym (append_assoc (((60 ∷ 60 ∷ []) ++ is.0) ++ is.1) n.before n.end); some = n.some; low = n.low }

pub closer_low : (closes : Bool) (text : List ℕ) → CloserText closes text → EndsLow text
closer_low true text (inl e) = all_low text (omega (arith, ap length e)) (ap (list_all is_low) e)
closer_low true text (inr e) = all_low text (omega (arith, ap length e)) (ap (list_all is_low) e)
closer_low false text e = all_low text (omega (arith, ap length e)) (ap (list_all is_low) e)

is_low_text : List ℕ → Bool
is_low_text [] = false
is_low_text (b ∷ text) = is_low b && list_all is_low text

low_text : (text : List ℕ) → is_low_text text ≡ true → EndsLow text
unfolding is_low_text
low_text [] h = absurd (cc)
low_text (b ∷ text) h = all_low (b ∷ text) (omega arith) h

pub mark_low : (text : List ℕ) (kind : Kind) → IsPunctuation punctuation text kind → EndsLow text
unfolding punctuation is_low_text
mark_low text kind is = low_text text (mark_passes (λ t k. is_low_text t) punctuation text kind refl is)
