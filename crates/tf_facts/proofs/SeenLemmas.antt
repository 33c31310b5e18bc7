-- The significant tokens from a number on, token by token.
use Rattle.std.proofs.Common.{◌≡◌, ◌∙◌, ap, refl, ℕ, suc, zero, ◌+◌, ◌≤◌, true, false, cond, not, List, [], ◌∷◌, drop, length, arith}
use Rattle.std.specs.Prelude.{Some, slice_get}
use Rattle.std.proofs.lemmas.Bool.{false≢true}
use Rattle.hcl_tokens.specs.Kinds.{is}
use Rattle.hcl_tokens.specs.declared.token.Kind.{Kind}
use Rattle.hcl_tokens.specs.declared.token.Kind.TheVariants as kind
use Rattle.hcl_tokens.specs.Lexemes.{Lexeme}
use Rattle.hcl_grammar.specs.Numbered.{numbered_from, significant, is_passed_over}
use Rattle.hcl_grammar.proofs.NumberedLemmas.{drop_at}
use Rattle.tf_facts.specs.Seen.{after_dot, dot_or, number_of, seen_from}

seen_step : (ts : List Lexeme) (n : ℕ) (t : Lexeme) → slice_get ts n ≡ Some t
    → seen_from ts n ≡ cond (not (is_passed_over t.kind)) (number_of n t ∷ seen_from ts (n + 1)) (seen_from ts (n + 1))
seen_step ts n t e = ap (λ r. significant (numbered_from n r)) (drop_at ts n t e)

-- a token that is passed over is left out
pub seen_past : (ts : List Lexeme) (n : ℕ) (t : Lexeme) → slice_get ts n ≡ Some t → is_passed_over t.kind ≡ true → seen_from ts n ≡ seen_from ts (n + 1)
seen_past ts n t e passed = seen_step ts n t e ∙ ap (λ b. cond (not b) (number_of n t ∷ seen_from ts (n + 1)) (seen_from ts (n + 1))) passed

-- a significant token is the first
pub seen_here : (ts : List Lexeme) (n : ℕ) (t : Lexeme) → slice_get ts n ≡ Some t → is_passed_over t.kind ≡ false → seen_from ts n ≡ number_of n t ∷ seen_from ts (n + 1)
seen_here ts n t e passed = seen_step ts n t e ∙ ap (λ b. cond (not b) (number_of n t ∷ seen_from ts (n + 1)) (seen_from ts (n + 1))) passed

-- at the end there is no significant token
pub seen_none : (ts : List Lexeme) (n : ℕ) → length ts ≤ n → seen_from ts n ≡ []
seen_none ts n past = ap (λ r. significant (numbered_from n r)) (drop_past ts n past)
  where
    drop_past : (xs : List Lexeme) (k : ℕ) → length xs ≤ k → drop k xs ≡ []
    drop_past [] zero h = refl
    drop_past [] (suc k) h = refl
    drop_past (x ∷ xs) zero h = absurd (omega arith)
    drop_past (x ∷ xs) (suc k) h = drop_past xs k (omega arith)

-- ---- the tokens before a number

module _ (ts : List Lexeme) (n m : ℕ) (at : m ≡ n + 1) (t : Lexeme) (e : slice_get ts n ≡ Some t) where
  after_step : after_dot ts m ≡ cond (is_passed_over t.kind) (after_dot ts n) (is kind.Dot t.kind)
  after_step = let s : m ≡ suc n = omega (arith, at) in ap (after_dot ts) s ∙ ap (λ o. dot_or o (after_dot ts n)) e

  pub after_past : is_passed_over t.kind ≡ true → after_dot ts m ≡ after_dot ts n
  after_past passed = after_step ∙ ap (λ b. cond b (after_dot ts n) (is kind.Dot t.kind)) passed

  pub after_seen : is_passed_over t.kind ≡ false → after_dot ts m ≡ is kind.Dot t.kind
  after_seen seen = after_step ∙ ap (λ b. cond b (after_dot ts n) (is kind.Dot t.kind)) seen

-- identifiers are significant
pub word_seen : (k : Kind) → is kind.Ident k ≡ true → is_passed_over k ≡ false
word_seen kind.Ident e = refl
word_seen _ e = absurd (false≢true e)
