-- Searches among tokens without comments, from both ends.
use Rattle.std.proofs.Common.{◌≡◌, ◌∙◌, ap, sym, refl, true≢false, ℕ, ◌+◌, ◌<◌, ◌≤◌, Bool, true, false, cond, not, List, [], ◌∷◌, ◌++◌, arith, subst}
use Rattle.std.specs.Prelude.{Some, slice_get, filter}
use Rattle.std.proofs.lemmas.List.Elements.{filter-append}
use Rattle.hcl_tokens.specs.Kinds.{is}
use Rattle.hcl_tokens.specs.Lexemes.{Lexeme}
use Rattle.hcl_tokens.specs.declared.token.Kind.{Kind}
use Rattle.hcl_tokens.specs.declared.token.Kind.TheVariants as kind
use Rattle.hcl_grammar.specs.Numbered.{Numbered, is_comment, end_of}
use Rattle.hcl_grammar.specs.Items.{closing_quote, after_brace, block_end}
use Rattle.hcl_syntax.specs.Inner.Segments.{words}
use Rattle.hcl_grammar.proofs.NumberedLemmas.{number_of}
use Rattle.hcl_syntax.proofs.WordRangeLemmas.{words_parts, words_step, words_past, words_here, open_word}

close_word : (k : Kind) → is kind.QuoteClose k ≡ true → is_comment k ≡ false
close_word kind.QuoteClose e = refl
close_word _ e = absurd (true≢false (sym e))

brace_word : (k : Kind) → is kind.BraceClose k ≡ true → is_comment k ≡ false
brace_word kind.BraceClose e = refl
brace_word _ e = absurd (true≢false (sym e))

module _ (ts : List Lexeme) (from to : ℕ) (t : Lexeme) (e : slice_get ts from ≡ Some t) (h : from < to) where
  pub closing_here : is kind.QuoteClose t.kind ≡ true → closing_quote (words ts from to) ≡ from
  closing_here is =
      ap closing_quote (words_here ts from to t e h (close_word t.kind is))
      ∙ ap (λ b. cond b from (closing_quote (words ts (from + 1) to))) is

  pub closing_past : is kind.QuoteClose t.kind ≡ false → closing_quote (words ts from to) ≡ closing_quote (words ts (from + 1) to)
  closing_past is = ap closing_quote (words_step ts from to t e h) ∙ by (not (is_comment t.kind))
    where
      by : (b : Bool) → closing_quote (cond b (number_of from t ∷ words ts (from + 1) to) (words ts (from + 1) to)) ≡ closing_quote (words ts (from + 1) to)
      by true = ap (λ b. cond b from (closing_quote (words ts (from + 1) to))) is
      by false = refl

  pub brace_here : is kind.BraceOpen t.kind ≡ true → after_brace (words ts from to) ≡ words ts (from + 1) to
  brace_here is =
      ap after_brace (words_here ts from to t e h (open_word t.kind is))
      ∙ ap (λ b. cond b (words ts (from + 1) to) (after_brace (words ts (from + 1) to))) is

  pub brace_past : is kind.BraceOpen t.kind ≡ false → after_brace (words ts from to) ≡ after_brace (words ts (from + 1) to)
  brace_past is = ap after_brace (words_step ts from to t e h) ∙ by (not (is_comment t.kind))
    where
      by : (b : Bool) → after_brace (cond b (number_of from t ∷ words ts (from + 1) to) (words ts (from + 1) to)) ≡ after_brace (words ts (from + 1) to)
      by true = ap (λ b. cond b (words ts (from + 1) to) (after_brace (words ts (from + 1) to))) is
      by false = refl

end_of-last : (xs : List Numbered) (t : Numbered) → end_of (xs ++ t ∷ []) ≡ t.number + 1
end_of-last [] t = refl
end_of-last (x ∷ []) t = refl
end_of-last (x ∷ y ∷ xs) t = end_of-last (y ∷ xs) t

abbrev closes : Numbered → Bool
closes t = is kind.BraceClose t.kind

-- up to the end and no further: the tokens after it have no closing brace
pub record NoClose (ts : List Lexeme) (end to : ℕ) : Type 0 where
  pub none : filter closes (words ts end to) ≡ []
  pub within : end ≤ to

-- and no word either
pub record NoWord (ts : List Lexeme) (end to : ℕ) : Type 0 where
  pub none : words ts end to ≡ []
  pub within : end ≤ to

module _ (ts : List Lexeme) (end to : ℕ) (t : Lexeme) (e : slice_get ts end ≡ Some t) (h : end < to) where
  pub close_past : (last : ℕ) → last ≡ end + 1 → is kind.BraceClose t.kind ≡ false → NoClose ts last to → NoClose ts end to
  close_past last at is after = let P : ℕ → Type 0 = λ n. NoClose ts n to in let rest : NoClose ts (end + 1) to = subst P at after in record { none = ap (filter closes) (words_step ts end to t e h) ∙ by (not (is_comment t.kind)) ∙ rest.none; within = omega (arith, h) }
    where
      by : (b : Bool) → filter closes (cond b (number_of end t ∷ words ts (end + 1) to) (words ts (end + 1) to)) ≡ filter closes (words ts (end + 1) to)
      by true = ap (λ b. cond b (number_of end t ∷ filter closes (words ts (end + 1) to)) (filter closes (words ts (end + 1) to))) is
      by false = refl

  pub word_past : (last : ℕ) → last ≡ end + 1 → is_comment t.kind ≡ true → NoWord ts last to → NoWord ts end to
  word_past last at is after = let P : ℕ → Type 0 = λ n. NoWord ts n to in let rest : NoWord ts (end + 1) to = subst P at after in record { none = words_past ts end to t e h is ∙ rest.none; within = omega (arith, h) }

  pub close_here : (last from : ℕ) → last ≡ end + 1 → from ≤ end → is kind.BraceClose t.kind ≡ true → NoClose ts last to → last ≡ block_end (words ts from to)
  close_here last from at k is after =
      let P : ℕ → Type 0 = λ n. NoClose ts n to in
      let rest : NoClose ts (end + 1) to = subst P at after in
      at ∙ sym (
      ap block_end (words_parts ts from end to k (omega (arith, h)) ∙ ap (λ r. words ts from end ++ r) (words_here ts end to t e h (brace_word t.kind is)))
      ∙ ap end_of (filter-append closes (words ts from end) (number_of end t ∷ words ts (end + 1) to)
      ∙ ap (λ b. filter closes (words ts from end) ++ cond b (number_of end t ∷ filter closes (words ts (end + 1) to)) (filter closes (words ts (end + 1) to))) is
      ∙ ap (λ r. filter closes (words ts from end) ++ number_of end t ∷ r) rest.none)
      ∙ end_of-last (filter closes (words ts from end)) (number_of end t))

  pub word_here : (last from : ℕ) → last ≡ end + 1 → from ≤ end → is_comment t.kind ≡ false → NoWord ts last to → last ≡ end_of (words ts from to)
  word_here last from at k is after =
      let P : ℕ → Type 0 = λ n. NoWord ts n to in
      let rest : NoWord ts (end + 1) to = subst P at after in
      at ∙ sym (
      ap end_of (words_parts ts from end to k (omega (arith, h)) ∙ ap (λ r. words ts from end ++ r) (words_here ts end to t e h is ∙ ap (λ r. number_of end t ∷ r) rest.none))
      ∙ end_of-last (words ts from end) (number_of end t))

pub no_close : (ts : List Lexeme) (from end to : ℕ) → end ≤ from → from ≤ to → NoClose ts end to → block_end (words ts from to) ≡ 0
no_close ts from end to h k rest = by (filter closes (words ts end from)) (filter closes (words ts from to)) (sym (filter-append closes (words ts end from) (words ts from to)) ∙ ap (filter closes) (sym (words_parts ts end from to h k)) ∙ rest.none)
  where
    by : (xs ys : List Numbered) → xs ++ ys ≡ [] → end_of ys ≡ 0
    by [] ys e = ap end_of e
    by (x ∷ xs) ys e = absurd (cc)

pub no_word : (ts : List Lexeme) (from end to : ℕ) → end ≤ from → from ≤ to → NoWord ts end to → end_of (words ts from to) ≡ 0
no_word ts from end to h k rest = by (words ts end from) (words ts from to) (sym (words_parts ts end from to h k) ∙ rest.none)
  where
    by : (xs ys : List Numbered) → xs ++ ys ≡ [] → end_of ys ≡ 0
    by [] ys e = ap end_of e
    by (x ∷ xs) ys e = absurd (cc)
