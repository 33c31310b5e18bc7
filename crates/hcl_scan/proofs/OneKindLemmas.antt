-- LAW of the texts of an expression: a text has one kind.
use Rattle.std.proofs.Common.{◌≡◌, ℕ, ◌&&◌, not, ◌==◌, Bool, true, false, List, [], ◌∷◌, inl, inr, ⊎_elim, refl, sym, ap, subst, ◌∙◌, arith}
use Rattle.std.specs.Prelude.{nat_eq}
use Rattle.std.specs.List.{list_all}
use Rattle.std.specs.Cmp.Lexicographic.{pointwise}
use Rattle.std.proofs.lemmas.Bool.Decides.{nat_tests}
use Rattle.hcl_tokens.specs.Lexemes.{Opener, closes_sequence}
use Rattle.hcl_tokens.specs.Spelling.{punctuation, IsPunctuation, IsExpressionText}
use Rattle.hcl_tokens.specs.declared.token.Kind.{Kind}
use Rattle.hcl_tokens.specs.declared.token.Kind.TheVariants.{SeqClose, BraceClose}
use Rattle.hcl_tokens.proofs.BooleanLemmas.{and_true}
use Rattle.hcl_scan.proofs.WayLemmas.{Ways, ways, newline, line_comment, inline_comment, blanks, ident, digits, number, heredoc, seq_close, brace_close, slash, mark}
use Rattle.hcl_scan.proofs.PrefixLemmas.{kind_lead, leads, line_kind, space_kind, letter_kind, digit_kind, hash_kind, star_kind, slash_kind, less_kind, closer_kinds, sign_mark, mark_lead}

-- no text is two marks
abbrev is_other : List ℕ → List ℕ × Kind → Bool
is_other text m = not (pointwise nat_eq text m.0)

abbrev are_distinct : List (List ℕ × Kind) → Bool
are_distinct [] = true
are_distinct (m ∷ ms) = list_all (is_other m.0) ms && are_distinct ms

pointwise_refl : (text : List ℕ) → pointwise nat_eq text text ≡ true
pointwise_refl [] = refl
pointwise_refl (b ∷ bs) = λ i. same b i && pointwise_refl bs i
  where
    same : (b : ℕ) → (b == b) ≡ true
    same b = grind (arith, nat_tests)

not_among : (text : List ℕ) (kind : Kind) (ms : List (List ℕ × Kind)) → list_all (is_other text) ms ≡ true → IsPunctuation ms text kind → ⊥
not_among text kind [] h is = is
not_among text kind (m ∷ ms) h (inl is) =
    let differs = (and_true (is_other text m) (list_all (is_other text) ms) h).0 in
    let same : pointwise nat_eq text m.0 ≡ true = ap (λ t. pointwise nat_eq text t) is.0 ∙ pointwise_refl text in
    let clash : not true ≡ true = ap not (sym same) ∙ differs in cc
not_among text kind (m ∷ ms) h (inr is) = not_among text kind ms (and_true (is_other text m) (list_all (is_other text) ms) h).1 is

one_mark : (ms : List (List ℕ × Kind)) (text : List ℕ) (kind other : Kind) → are_distinct ms ≡ true → IsPunctuation ms text kind → IsPunctuation ms text other → kind ≡ other
one_mark [] text kind other h a b = absurd a
one_mark (m ∷ ms) text kind other h a b = pick (one_mark ms text kind other) a b
  where
    parts : (list_all (is_other m.0) ms ≡ true) × (are_distinct ms ≡ true)
    parts = and_true (list_all (is_other m.0) ms) (are_distinct ms) h

    pick : (are_distinct ms ≡ true → IsPunctuation ms text kind → IsPunctuation ms text other → kind ≡ other) → IsPunctuation (m ∷ ms) text kind → IsPunctuation (m ∷ ms) text other → kind ≡ other
    pick rec (inl x) (inl y) = sym x.1 ∙ y.1
    pick rec (inl x) (inr y) = absurd (not_among m.0 other ms parts.0 (subst (λ t. IsPunctuation ms t other) (sym x.0) y))
    pick rec (inr x) (inl y) = absurd (not_among m.0 kind ms parts.0 (subst (λ t. IsPunctuation ms t kind) (sym y.0) x))
    pick rec (inr x) (inr y) = rec parts.1 x y

marks_once : (text : List ℕ) (kind other : Kind) → IsPunctuation punctuation text kind → IsPunctuation punctuation text other → kind ≡ other
unfolding punctuation
marks_once text kind other = one_mark punctuation text kind other refl

-- two kinds that begin alike
same_lead : (opens : List Opener) (dot : Bool) (kind other : Kind) (text rest : List ℕ) → kind_lead other ≡ kind_lead kind → Ways opens dot kind text rest → IsExpressionText opens dot other text rest → kind ≡ other
same_lead opens dot kind other text rest l (newline k x) is = k ∙ sym (line_kind other (l ∙ ap kind_lead k))
same_lead opens dot kind other text rest l (line_comment k x) is = k ∙ sym (hash_kind other (l ∙ ap kind_lead k))
same_lead opens dot kind other text rest l (inline_comment k x) is = k ∙ sym (star_kind other (l ∙ ap kind_lead k))
same_lead opens dot kind other text rest l (blanks k h x) is = k ∙ sym (space_kind other (l ∙ ap kind_lead k))
same_lead opens dot kind other text rest l (ident k x) is = k ∙ sym (letter_kind other (l ∙ ap kind_lead k))
same_lead opens dot kind other text rest l (digits k h x) is = k ∙ sym (digit_kind other (l ∙ ap kind_lead k))
same_lead opens dot kind other text rest l (number k h x) is = k ∙ sym (digit_kind other (l ∙ ap kind_lead k))
same_lead opens dot kind other text rest l (heredoc k x) is = k ∙ sym (less_kind other (l ∙ ap kind_lead k))
same_lead opens dot kind other text rest l (slash k e h) is = k ∙ sym (slash_kind other (l ∙ ap kind_lead k))
same_lead opens dot kind other text rest l (mark x) is = marks_once text kind other x (sign_mark opens dot other text rest (l ∙ mark_lead text kind x) (ways opens dot other text rest is))
same_lead opens dot kind other text rest l (seq_close k h x) is = ⊎_elim (λ e. k ∙ sym e) brace (closer_kinds other (l ∙ ap kind_lead k))
  where
    brace : other ≡ BraceClose → kind ≡ other
    brace e = let b : IsExpressionText opens dot BraceClose text rest = subst (λ (z : Kind). IsExpressionText opens dot z text rest) e is in
        let never : closes_sequence opens ≡ false = b.0 in absurd (cc)
same_lead opens dot kind other text rest l (brace_close k h x) is = ⊎_elim sequence (λ e. k ∙ sym e) (closer_kinds other (l ∙ ap kind_lead k))
  where
    sequence : other ≡ SeqClose → kind ≡ other
    sequence e = let b : IsExpressionText opens dot SeqClose text rest = subst (λ (z : Kind). IsExpressionText opens dot z text rest) e is in
        let yes : closes_sequence opens ≡ true = b.0 in absurd (cc)

pub expression_one_kind : (opens : List Opener) (dot : Bool) (kind other : Kind) (text rest : List ℕ) → IsExpressionText opens dot kind text rest → IsExpressionText opens dot other text rest → kind ≡ other
expression_one_kind opens dot kind other text rest a b =
    let x = ways opens dot kind text rest a in
    let y = ways opens dot other text rest b in
    same_lead opens dot kind other text rest (sym (leads opens dot other text rest y) ∙ leads opens dot kind text rest x) x b
