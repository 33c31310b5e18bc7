-- Bounds from the size of a source: no source is longer than 4 MiB, no two tokens share a byte and none is empty.
use Rattle.std.specs.Prelude.{◌≤◌, ◌+◌, ◌^◌, ℕ, List, [], ◌∷◌, length}
use Rattle.hcl_tokens.specs.Lexemes.{Lexeme}
use Rattle.hcl_tokens.specs.Scanned.{Scanned}
use Rattle.hcl_layout.specs.Inner.LineGaps.{len_with_blanks}

-- each token begins at the end of the one before it, or later
abbrev pub AreDisjoint : ℕ → List Lexeme → Type 0
AreDisjoint from [] = Unit {0}
AreDisjoint from (t ∷ ts) = (from ≤ t.start) × AreDisjoint (t.start + length t.text) ts

pub record IsBounded (s : Scanned) : Type 0 where
  pub text : length s.text ≤ 2 ^ 22
  pub tokens : length s.tokens ≤ 2 ^ 22
  pub blanks : len_with_blanks s.tokens ≤ 2 ^ 23
  pub disjoint : AreDisjoint 0 s.tokens
