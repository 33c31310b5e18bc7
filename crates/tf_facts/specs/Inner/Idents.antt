-- Which tokens are identifiers.
use Rattle.std.specs.Prelude.{◌≡◌, ◌<◌, ◌≤◌, ℕ, true, false, List, Some, slice_get}
use Rattle.hcl_tokens.specs.Kinds.{is}
use Rattle.hcl_tokens.specs.declared.token.Kind.TheVariants.{Ident}
use Rattle.hcl_tokens.specs.Lexemes.{Lexeme}

-- a token of this number is an identifier
abbrev pub IsIdentAt : List Lexeme → ℕ → Type 0
IsIdentAt tokens n = (t : Lexeme) → slice_get tokens n ≡ Some t → is Ident t.kind ≡ true

-- no token from a number on to before another is an identifier
abbrev pub AreNoIdents : List Lexeme → ℕ → ℕ → Type 0
AreNoIdents tokens from to = (k : ℕ) (t : Lexeme) → from ≤ k → k < to → slice_get tokens k ≡ Some t → is Ident t.kind ≡ false
