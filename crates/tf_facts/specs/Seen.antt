-- The tokens of a list from a number on that patterns see: the significant ones.
use Rattle.std.specs.Prelude.{◌≡◌, ◌<◌, ◌≤◌, ◌+◌, ◌^◌, ℕ, zero, suc, Bool, false, List, ◌∷◌, Option, None, Some, drop, length, slice_get, if◌then◌else◌}
use Rattle.hcl_tokens.specs.Kinds.{is}
use Rattle.hcl_tokens.specs.declared.token.Kind.TheVariants.{Dot}
use Rattle.hcl_tokens.specs.Lexemes.{Lexeme}
use Rattle.hcl_grammar.specs.Numbered.{Numbered, is_passed_over, numbered_from, significant}
use Rattle.tf_facts.specs.References.{name_after}
use Rattle.tf_facts.specs.declared.seen.SeenToken.{SeenToken}

abbrev pub seen_from : List Lexeme → ℕ → List Numbered
seen_from tokens n = significant (numbered_from n (drop n tokens))

-- a token with a number
abbrev pub number_of : ℕ → Lexeme → Numbered
number_of n t = record { number = n; kind = t.kind; text = t.text }

abbrev pub numbered_of : SeenToken → Numbered
numbered_of t = record { number = t.number; kind = t.kind; text = t.text.now }

-- the token is the first significant one from a number on
pub record IsNextSeen (tokens : List Lexeme) (from : ℕ) (t : SeenToken) : Type 0 where
  pub first : seen_from tokens from ≡ numbered_of t ∷ seen_from tokens (t.number + 1)
  pub within : t.number < length tokens
  pub small : t.number + 1 < 2 ^ 64
  pub not_before : from ≤ t.number

-- whether a significant token is a dot; at any other token the answer is that of the tokens before
abbrev pub dot_or : Option Lexeme → Bool → Bool
dot_or None before = before
dot_or (Some t) before = if is_passed_over t.kind then before else is Dot t.kind

-- the last significant token before a number is a dot
abbrev pub after_dot : List Lexeme → ℕ → Bool
after_dot tokens zero = false
after_dot tokens (suc n) = dot_or (slice_get tokens n) (after_dot tokens n)

-- the tokens from a number on begin with a dot and this identifier
pub record IsAfter (tokens : List Lexeme) (from : ℕ) (t : SeenToken) : Type 0 where
  pub named : name_after (seen_from tokens from) ≡ Some (numbered_of t)
  pub rest : drop 2 (seen_from tokens from) ≡ seen_from tokens (t.number + 1)
  pub within : t.number < length tokens
  pub small : t.number + 1 < 2 ^ 64
