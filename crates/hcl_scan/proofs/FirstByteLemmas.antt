-- The first byte of a token of an expression, and the kinds that it allows.
use Rattle.std.proofs.Common.{◌≡◌, ℕ, Bool, true, false, List, [], ◌∷◌, ◌++◌, get_or, inl, inr, ⊎_elim, refl, sym, ◌∙◌, arith, append_assoc}
use Rattle.std.proofs.lemmas.List.{append-nil}
use Rattle.std.specs.Char.{is_ascii_digit}
use Rattle.std.proofs.lemmas.Bool.Decides.{nat_tests}
use Rattle.hcl_tokens.specs.Lexemes.{Opener, in_heredoc}
use Rattle.hcl_tokens.specs.Spelling.{punctuation, IsPunctuation, IsDigits, starts}
use Rattle.hcl_tokens.specs.Kinds.{is}
use Rattle.hcl_tokens.specs.SideBySide.{begins_as, may_begin_ident}
use Rattle.hcl_tokens.specs.declared.token.Kind.{Kind}
use Rattle.hcl_tokens.specs.declared.token.Kind.TheVariants.{Ident, Number}
use Rattle.hcl_scan.proofs.WayLemmas.{Ways, newline, line_comment, inline_comment, blanks, ident, digits, number, heredoc, seq_close, brace_close, slash, mark, mark_passes}
use Rattle.hcl_scan.proofs.WordLemmas.{ident_word, begins_word}
use Rattle.hcl_scan.proofs.CommentTextLemmas.{starts_split}
use Rattle.hcl_scan.proofs.NumeralLemmas.{digit_head}
use Rattle.hcl_tokens.proofs.BooleanLemmas.{or_cases}

mark_begins : (text : List ℕ) (kind : Kind) → IsPunctuation punctuation text kind → begins_as kind (get_or text 0 0) ≡ true
unfolding punctuation
mark_begins text kind is = mark_passes (λ t k. begins_as k (get_or t 0 0)) punctuation text kind refl is

word_begins : (b : ℕ) → begins_word b ≡ true → begins_as Ident b ≡ true
word_begins b h = let l : may_begin_ident b ≡ true = h in rw l refl

digit_begins : (b : ℕ) → is_ascii_digit b ≡ true → begins_as Number b ≡ true
digit_begins b h = let l : may_begin_ident b ≡ false = grind (arith, nat_tests) in rw (l, h) refl

digits_begin : (text after : List ℕ) → IsDigits text → begins_as Number (get_or (text ++ after) 0 0) ≡ true
digits_begin text after is = digit_begins (get_or (text ++ after) 0 0) (digit_head text after is)

-- THE TABLE HOLDS
pub begins : (opens : List Opener) (dot : Bool) (kind : Kind) (text rest : List ℕ) → in_heredoc opens ≡ false → Ways opens dot kind text rest → begins_as kind (get_or text 0 0) ≡ true
begins opens dot kind text rest plain (newline k (inl e)) = λ i. begins_as (k i) (get_or (e i) 0 0)
begins opens dot kind text rest plain (newline k (inr e)) = λ i. begins_as (k i) (get_or (e i) 0 0)
begins opens dot kind text rest plain (line_comment k is) = ⊎_elim
    (λ a. let s = starts_split text (35 ∷ []) a in λ i. begins_as (k i) (get_or (s.1 i) 0 0))
    (λ b. let s = starts_split text (47 ∷ 47 ∷ []) b in λ i. begins_as (k i) (get_or (s.1 i) 0 0))
    (or_cases (starts text (35 ∷ [])) (starts text (47 ∷ 47 ∷ [])) is.0)
begins opens dot kind text rest plain (inline_comment k is) = λ i. begins_as (k i) (get_or (is.1 i) 0 0)
begins opens dot kind text rest plain (blanks k h is) = absurd (cc)
begins opens dot kind text rest plain (ident k is) = let w = ident_word text is in (λ i. begins_as (k i) (get_or (w.whole i) 0 0)) ∙ word_begins w.first w.begins
begins opens dot kind text rest plain (digits k h is) = (λ i. begins_as (k i) (get_or (sym (append-nil text) i) 0 0)) ∙ digits_begin text [] is
begins opens dot kind text rest plain (number k h is) = (λ i. begins_as (k i) (get_or ((is.6 ∙ append_assoc is.0 is.1 is.2) i) 0 0)) ∙ digits_begin is.0 (is.1 ++ is.2) is.3
begins opens dot kind text rest plain (heredoc k is) = λ i. begins_as (k i) (get_or (is.6 i) 0 0)
begins opens dot kind text rest plain (seq_close k h (inl e)) = λ i. begins_as (k i) (get_or (e i) 0 0)
begins opens dot kind text rest plain (seq_close k h (inr e)) = λ i. begins_as (k i) (get_or (e i) 0 0)
begins opens dot kind text rest plain (brace_close k h e) = λ i. begins_as (k i) (get_or (e i) 0 0)
begins opens dot kind text rest plain (slash k e h) = λ i. begins_as (k i) (get_or (e i) 0 0)
begins opens dot kind text rest plain (mark is) = mark_begins text kind is
