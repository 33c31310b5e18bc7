-- Identifiers and numbers: no longer text begins there unless the next byte extends one.
use Rattle.std.proofs.Common.{◌≡◌, ℕ, ◌<◌, not, Bool, true, false, List, [], ◌∷◌, ◌++◌, length, get_or, sym, ap, subst, ◌∙◌, arith, append_assoc, length-append}
use Rattle.std.specs.List.{list_all}
use Rattle.std.specs.Char.{is_ascii_digit}
use Rattle.hcl_tokens.specs.Lexemes.{Opener}
use Rattle.hcl_tokens.specs.Spelling.{IsDigits, IsIdent, IsNumber, IsExpressionText}
use Rattle.hcl_scan.specs.Inner.Prefixes.{prefix_of}
use Rattle.hcl_tokens.specs.Neighbours.{grows}
use Rattle.hcl_scan.specs.declared.front.Prefix.TheVariants.{Letter, Digit}
use Rattle.hcl_tokens.specs.declared.token.Kind.{Kind}
use Rattle.hcl_tokens.specs.declared.token.Kind.TheVariants.{Ident, Number}
use Rattle.hcl_tokens.proofs.BooleanLemmas.{and_true}
use Rattle.hcl_scan.proofs.WordLemmas.{IsWord, ident_word, is_word, number_ends, no_longer_number, stops_number, Whole, ends_number}
use Rattle.hcl_scan.proofs.PrefixLemmas.{letter_leads, digits_lead, letter_kind, digit_kind}
use Rattle.hcl_scan.proofs.LongerTextLemmas.{Alone, Longer, longer_is, lead_kind, all_after}

abbrev pub stops_digits : List ℕ → Bool
stops_digits [] = true
stops_digits (b ∷ bs) = not (is_ascii_digit b)

abbrev pub stops_ident : List ℕ → Bool
stops_ident [] = true
stops_ident (b ∷ bs) = not (grows Ident b)

grown : (bs left : List ℕ) → 0 < length bs → list_all is_word bs ≡ true → stops_ident (bs ++ left) ≡ true → ⊥
grown [] left some h k = omega arith
grown (b ∷ bs) left some h k = let w = (and_true (is_word b) (list_all is_word bs) h).0 in let clash : not true ≡ true = ap not (sym w) ∙ k in cc

-- AN IDENTIFIER
pub ident_alone : (opens : List Opener) (dot : Bool) (text rest : List ℕ) → IsIdent text → stops_ident rest ≡ true → Alone opens dot text rest
ident_alone opens dot text rest is stop kind longer left e lt h =
    grown more.bs left more.some (all_after is_word text more.bs (ap (list_all is_word) (sym more.whole) ∙ (ident_word longer (subst (λ (k : Kind). IsExpressionText opens dot k longer left) kind_is h)).words)) (ap stops_ident more.after ∙ stop)
  where
    more : Longer text rest longer left
    more = longer_is text rest longer left e lt

    w : IsWord text
    w = ident_word text is

    letter : prefix_of (text ++ rest) ≡ Letter
    letter = ap (λ l. prefix_of (l ++ rest)) w.whole ∙ letter_leads w.first (get_or (w.first ∷ (w.more ++ rest)) 1 0) w.begins

    kind_is : kind ≡ Ident
    kind_is = letter_kind kind (lead_kind opens dot kind longer left (text ++ rest) e (omega (arith, ap length w.whole, lt)) h ∙ letter)

-- A NUMBER without a Dot before it
pub number_alone : (opens : List Opener) (text rest : List ℕ) → IsNumber text → stops_number rest ≡ true → Alone opens false text rest
number_alone opens text rest is stop kind longer left e lt h =
    no_longer_number Whole text more.bs left (ap stops_number more.after ∙ stop) more.some (number_ends text is) (ap (λ x. ends_number Whole x) (sym more.whole) ∙ number_ends longer (subst (λ (k : Kind). IsExpressionText opens false k longer left) kind_is h))
  where
    more : Longer text rest longer left
    more = longer_is text rest longer left e lt

    split : text ≡ is.0 ++ (is.1 ++ is.2)
    split = is.6 ∙ append_assoc is.0 is.1 is.2

    digit : prefix_of (text ++ rest) ≡ Digit
    digit = ap (λ l. prefix_of (l ++ rest)) split ∙ ap prefix_of (append_assoc is.0 (is.1 ++ is.2) rest) ∙ digits_lead is.0 ((is.1 ++ is.2) ++ rest) is.3

    kind_is : kind ≡ Number
    kind_is = digit_kind kind (lead_kind opens false kind longer left (text ++ rest) e (omega (arith, ap length split, length-append is.0 (is.1 ++ is.2), is.3.0, lt)) h ∙ digit)

digit_after : (bs left : List ℕ) → 0 < length bs → list_all is_ascii_digit bs ≡ true → stops_digits (bs ++ left) ≡ true → ⊥
digit_after [] left some h k = omega arith
digit_after (b ∷ bs) left some h k = let w = (and_true (is_ascii_digit b) (list_all is_ascii_digit bs) h).0 in let clash : not true ≡ true = ap not (sym w) ∙ k in cc

-- and with one before it
pub digits_alone : (opens : List Opener) (text rest : List ℕ) → IsDigits text → stops_digits rest ≡ true → Alone opens true text rest
digits_alone opens text rest is stop kind longer left e lt h =
    digit_after more.bs left more.some (all_after is_ascii_digit text more.bs (ap (list_all is_ascii_digit) (sym more.whole) ∙ (subst (λ (k : Kind). IsExpressionText opens true k longer left) kind_is h).1)) (ap stops_digits more.after ∙ stop)
  where
    more : Longer text rest longer left
    more = longer_is text rest longer left e lt

    kind_is : kind ≡ Number
    kind_is = digit_kind kind (lead_kind opens true kind longer left (text ++ rest) e (omega (arith, is.0, lt)) h ∙ digits_lead text rest is)
