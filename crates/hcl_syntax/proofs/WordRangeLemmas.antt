-- Tokens between two numbers, one by one and in two parts.
use Rattle.std.proofs.Common.{◌≡◌, ◌∙◌, ap, sym, refl, true≢false, ℕ, suc, zero, ◌+◌, ◌-◌, ◌<◌, ◌≤◌, true, false, cond, not, List, [], ◌∷◌, ◌++◌, drop, take, arith}
use Rattle.std.specs.Prelude.{Some, slice_get}
use Rattle.std.proofs.lemmas.List.{drop-drop}
use Rattle.std.proofs.lemmas.List.Elements.{filter-append}
use Rattle.hcl_tokens.specs.Kinds.{is}
use Rattle.hcl_tokens.specs.Lexemes.{Lexeme}
use Rattle.hcl_tokens.specs.declared.token.Kind.{Kind}
use Rattle.hcl_tokens.specs.declared.token.Kind.TheVariants as kind
use Rattle.hcl_grammar.specs.Numbered.{Numbered, numbered_from, without_comments, is_comment}
use Rattle.hcl_grammar.proofs.NumberedLemmas.{drop_at, number_of}
use Rattle.hcl_syntax.specs.Inner.Segments.{tokens_between, words}

-- from a token on
pub between_here : (ts : List Lexeme) (from to : ℕ) (t : Lexeme) → slice_get ts from ≡ Some t → from < to → tokens_between ts from to ≡ number_of from t ∷ tokens_between ts (from + 1) to
between_here ts from to t e h =
    let n : to - from ≡ suc (to - (from + 1)) = omega arith in
    ap (λ k. take k (numbered_from from (drop from ts))) n ∙ ap (λ r. take (suc (to - (from + 1))) (numbered_from from r)) (drop_at ts from t e)

pub between_none : (ts : List Lexeme) (from to : ℕ) → to ≤ from → tokens_between ts from to ≡ []
between_none ts from to h = let n : to - from ≡ 0 = omega arith in ap (λ k. take k (numbered_from from (drop from ts))) n ∙ none (numbered_from from (drop from ts))
  where
    none : (xs : List Numbered) → take 0 xs ≡ []
    none [] = refl
    none (x ∷ xs) = refl

-- in two parts
parts : (xs : List Lexeme) (n i k : ℕ) → take (i + k) (numbered_from n xs) ≡ take i (numbered_from n xs) ++ take k (numbered_from (n + i) (drop i xs))
parts xs n zero k =
    let z : n + 0 ≡ n = omega arith in
    let y : 0 + k ≡ k = omega arith in
    ap (λ j. take j (numbered_from n xs)) y ∙ ap (λ j. take k (numbered_from j xs)) (sym z) ∙ ap (λ r. r ++ take k (numbered_from (n + 0) xs)) (sym (none (numbered_from n xs)))
  where
    none : (ys : List Numbered) → take 0 ys ≡ []
    none [] = refl
    none (y ∷ ys) = refl
parts [] n (suc i) k = empty (suc i + k) ∙ sym (empty k)
  where
    empty : (j : ℕ) → take {A = Numbered} j [] ≡ []
    empty zero = refl
    empty (suc j) = refl
parts (x ∷ xs) n (suc i) k =
    let s : suc i + k ≡ suc (i + k) = omega arith in
    let m : n + suc i ≡ n + 1 + i = omega arith in
    ap (λ j. take j (numbered_from n (x ∷ xs))) s
    ∙ ap (λ r. number_of n x ∷ r) (parts xs (n + 1) i k)
    ∙ ap (λ j. number_of n x ∷ (take i (numbered_from (n + 1) xs) ++ take k (numbered_from j (drop i xs)))) (sym m)

pub between_parts : (ts : List Lexeme) (from mid to : ℕ) → from ≤ mid → mid ≤ to → tokens_between ts from to ≡ tokens_between ts from mid ++ tokens_between ts mid to
between_parts ts from mid to h k =
    let n : to - from ≡ (mid - from) + (to - mid) = omega arith in
    let m : from + (mid - from) ≡ mid = omega arith in
    ap (λ j. take j (numbered_from from (drop from ts))) n
    ∙ parts (drop from ts) from (mid - from) (to - mid)
    ∙ ap (λ r. tokens_between ts from mid ++ take (to - mid) (numbered_from (from + (mid - from)) r)) (drop-drop (mid - from) from ts)
    ∙ ap (λ j. tokens_between ts from mid ++ take (to - mid) (numbered_from j (drop j ts))) m

-- ---- without comments

pub words_parts : (ts : List Lexeme) (from mid to : ℕ) → from ≤ mid → mid ≤ to → words ts from to ≡ words ts from mid ++ words ts mid to
words_parts ts from mid to h k = ap without_comments (between_parts ts from mid to h k) ∙ filter-append (λ t. not (is_comment t.kind)) (tokens_between ts from mid) (tokens_between ts mid to)

pub words_none : (ts : List Lexeme) (from to : ℕ) → to ≤ from → words ts from to ≡ []
words_none ts from to h = ap without_comments (between_none ts from to h)

pub words_step : (ts : List Lexeme) (from to : ℕ) (t : Lexeme) → slice_get ts from ≡ Some t → from < to
    → words ts from to ≡ cond (not (is_comment t.kind)) (number_of from t ∷ words ts (from + 1) to) (words ts (from + 1) to)
words_step ts from to t e h = ap without_comments (between_here ts from to t e h)

-- a comment
pub words_past : (ts : List Lexeme) (from to : ℕ) (t : Lexeme) → slice_get ts from ≡ Some t → from < to → is_comment t.kind ≡ true → words ts from to ≡ words ts (from + 1) to
words_past ts from to t e h comment = words_step ts from to t e h ∙ ap (λ b. cond (not b) (number_of from t ∷ words ts (from + 1) to) (words ts (from + 1) to)) comment

-- no comment
pub words_here : (ts : List Lexeme) (from to : ℕ) (t : Lexeme) → slice_get ts from ≡ Some t → from < to → is_comment t.kind ≡ false → words ts from to ≡ number_of from t ∷ words ts (from + 1) to
words_here ts from to t e h word = words_step ts from to t e h ∙ ap (λ b. cond (not b) (number_of from t ∷ words ts (from + 1) to) (words ts (from + 1) to)) word

-- an opening brace is no comment
pub open_word : (k : Kind) → is kind.BraceOpen k ≡ true → is_comment k ≡ false
open_word kind.BraceOpen e = refl
open_word _ e = absurd (true≢false (sym e))
