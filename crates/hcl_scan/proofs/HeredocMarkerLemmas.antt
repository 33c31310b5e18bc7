-- The marker line of a heredoc stays its first one, whatever text comes after that line.
use Rattle.std.proofs.Common.{◌≡◌, ℕ, ◌+◌, ◌<◌, ◌&&◌, ◌==◌, not, Bool, true, false, cond, List, [], ◌∷◌, ◌++◌, length, take, drop, if◌then◌else◌, ⊎_elim, sym, subst, ◌∙◌, arith}
use Rattle.std.specs.List.{position_or_len, before_first, starts_with}
use Rattle.std.specs.Prelude.{nat_eq}
use Rattle.std.proofs.Math.Numerals.{one-add}
use Rattle.std.proofs.lemmas.Bool.Decides.{nat_tests}
use Rattle.hcl_tokens.specs.Lexemes.{Opener, marker_of, is_newline_byte}
use Rattle.hcl_tokens.specs.Scans.{Hidden, hides, skip_blanks, at_line_end, IsFirstMarkerLine}
use Rattle.hcl_tokens.specs.Spelling.{IsSpelling, IsHeredocOpen, IsTextIn, context, Context, Template, Expression}
use Rattle.hcl_scan.proofs.LongestFrontLemmas.{run_passes}
use Rattle.hcl_scan.proofs.WordLemmas.{ident_word, all_to, begins_word}
use Rattle.hcl_scan.proofs.MarkerLineLemmas.{first_z, take_z, hidden_z}
use Rattle.hcl_tokens.specs.declared.token.Kind.TheVariants.{HeredocOpen}

free : (b : ℕ) → not (is_newline_byte b) ≡ true → not (b == 10) ≡ true
free b h = grind (arith, nat_tests)

begun : (b : ℕ) (l : List ℕ) → is_newline_byte b ≡ false → 0 < length (before_first is_newline_byte (b ∷ l))
begun b l h = subst (λ v. 0 < length (take (cond (not v) (1 + position_or_len is_newline_byte l) 0) (b ∷ l))) (sym h) (rw one-add (omega arith))

word_no_newline : (b : ℕ) → begins_word b ≡ true → is_newline_byte b ≡ false
word_no_newline b h = grind (arith, nat_tests)

word_no_dash : (b : ℕ) → begins_word b ≡ true → (45 == b) ≡ false
word_no_dash b h = grind (arith, nat_tests)

abbrev marker_if : Bool → List ℕ → List ℕ
marker_if v text = before_first is_newline_byte (if v then drop 3 text else drop 2 text)

some_marker : (text : List ℕ) → IsHeredocOpen text → 0 < length (marker_of text)
some_marker text is =
    let w = ident_word is.1 is.4 in
    let b : ℕ = w.first in
    let plain : begun_so (b ∷ (w.more ++ is.2)) = begun b (w.more ++ is.2) (word_no_newline b w.begins) in
    ⊎_elim
    (λ none. let e : text ≡ 60 ∷ 60 ∷ b ∷ (w.more ++ is.2) = is.6 ∙ (λ i. (60 ∷ 60 ∷ none i) ++ w.whole i ++ is.2) in
    subst (λ t. 0 < length (marker_of t)) (sym e) (subst (λ v. 0 < length (marker_if (v && true) (60 ∷ 60 ∷ b ∷ (w.more ++ is.2)))) (sym (word_no_dash b w.begins)) plain))
    (λ dash. let e : text ≡ 60 ∷ 60 ∷ 45 ∷ b ∷ (w.more ++ is.2) = is.6 ∙ (λ i. (60 ∷ 60 ∷ dash i) ++ w.whole i ++ is.2) in
    subst (λ t. 0 < length (marker_of t)) (sym e) plain)
    is.3
  where
    begun_so : List ℕ → Type 0
    begun_so l = 0 < length (before_first is_newline_byte l)

heredoc_in : (c : Context) (opens : List Opener) (dot : Bool) (text rest : List ℕ) → IsTextIn c opens dot HeredocOpen text rest → IsHeredocOpen text
heredoc_in Expression opens dot text rest h = h
heredoc_in (Template true) opens dot text rest h = absurd h
heredoc_in (Template false) opens dot text rest h = absurd h

-- THE LAW
pub marker_line_stays : (opens : List Opener) (dot : Bool) (text rest after : List ℕ) (n : ℕ) → IsSpelling opens dot HeredocOpen text rest → IsFirstMarkerLine (marker_of text) rest n → at_line_end (skip_blanks after) ≡ true →
    let h : Hidden = hides (marker_of text) (drop n rest) in
    let z : List ℕ = take n rest ++ (h.closer ++ after) in
    IsFirstMarkerLine (marker_of text) z n × (take n z ≡ take n rest) × (hides (marker_of text) (drop n z) ≡ record { closer = h.closer; after = after })
marker_line_stays opens dot text rest after n is first ends =
    let m : List ℕ = marker_of text in
    let some = some_marker text (heredoc_in (context opens) opens dot text rest is) in
    let no_lf = all_to (λ b. not (is_newline_byte b)) (λ b. not (b == 10)) free m (run_passes (λ b. not (is_newline_byte b)) (if starts_with nat_eq text (60 ∷ 60 ∷ 45 ∷ []) then drop 3 text else drop 2 text)) in
    (first_z m rest after n some no_lf first ends, take_z m rest after n some no_lf first ends, hidden_z m rest after n some no_lf first ends)
