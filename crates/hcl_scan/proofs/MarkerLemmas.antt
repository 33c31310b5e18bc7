-- The marker of a heredoc.
use Rattle.std.proofs.Common.{◌≡◌, ℕ, ◌+◌, ◌<◌, ◌≤◌, ◌&&◌, ◌==◌, not, Bool, true, false, cond, List, ◌∷◌, ◌++◌, length, get_or, take, drop, if◌then◌else◌, ⊎_elim, sym, ap, subst, ◌∙◌, arith}
use Rattle.std.specs.List.{position_or_len, before_first}
use Rattle.std.proofs.Math.Numerals.{one-add}
use Rattle.std.proofs.lemmas.Bool.Decides.{nat_tests}
use Rattle.hcl_tokens.specs.Lexemes.{marker_of, is_newline_byte}
use Rattle.hcl_tokens.specs.Spelling.{is_blank, IsHeredocOpen}
use Rattle.hcl_scan.proofs.WordLemmas.{ident_word, begins_word}

-- there is a first byte, and it is no blank
abbrev Begun : List ℕ → Type 0
Begun marker = (0 < length marker) × (is_blank (get_or marker 0 0) ≡ false)

begun : (b : ℕ) (l : List ℕ) → is_newline_byte b ≡ false → is_blank b ≡ false → Begun (before_first is_newline_byte (b ∷ l))
begun b l h no_blank = subst (λ v. Begun (take (cond (not v) (1 + position_or_len is_newline_byte l) 0) (b ∷ l))) (sym h) (rw one-add (omega arith), rw one-add no_blank)

word_no_newline : (b : ℕ) → begins_word b ≡ true → is_newline_byte b ≡ false
word_no_newline b h = grind (arith, nat_tests)

word_no_blank : (b : ℕ) → begins_word b ≡ true → is_blank b ≡ false
word_no_blank b h = grind (arith, nat_tests)

word_no_dash : (b : ℕ) → begins_word b ≡ true → (45 == b) ≡ false
word_no_dash b h = grind (arith, nat_tests)

abbrev marker_if : Bool → List ℕ → List ℕ
marker_if v text = before_first is_newline_byte (if v then drop 3 text else drop 2 text)

begun_marker : (text : List ℕ) → IsHeredocOpen text → Begun (marker_of text)
begun_marker text is =
    let w = ident_word is.1 is.4 in
    let b : ℕ = w.first in
    let plain : begun_so (b ∷ (w.more ++ is.2)) = begun b (w.more ++ is.2) (word_no_newline b w.begins) (word_no_blank b w.begins) in
    ⊎_elim
    (λ none. let e : text ≡ 60 ∷ 60 ∷ b ∷ (w.more ++ is.2) = is.6 ∙ (λ i. (60 ∷ 60 ∷ none i) ++ w.whole i ++ is.2) in
    subst (λ t. Begun (marker_of t)) (sym e) (subst (λ v. Begun (marker_if (v && true) (60 ∷ 60 ∷ b ∷ (w.more ++ is.2)))) (sym (word_no_dash b w.begins)) plain))
    (λ dash. let e : text ≡ 60 ∷ 60 ∷ 45 ∷ b ∷ (w.more ++ is.2) = is.6 ∙ (λ i. (60 ∷ 60 ∷ dash i) ++ w.whole i ++ is.2) in
    subst (λ t. Begun (marker_of t)) (sym e) plain)
    is.3
  where
    begun_so : List ℕ → Type 0
    begun_so l = Begun (before_first is_newline_byte l)

pub some_marker : (text : List ℕ) → IsHeredocOpen text → 0 < length (marker_of text)
some_marker text is = (begun_marker text is).0

pub marker_no_blank : (text : List ℕ) → IsHeredocOpen text → is_blank (get_or (marker_of text) 0 0) ≡ false
marker_no_blank text is = (begun_marker text is).1

-- the opener of a heredoc has at least its two signs
pub long_opener : (text : List ℕ) → IsHeredocOpen text → 2 ≤ length text
long_opener text is = omega (arith, ap length is.6)
