-- The tokens of a print: those that make it, each at its place there. Our own words, for the laws that a print is
-- scanned back to them and printed again unchanged.
use Rattle.std.specs.Prelude.{ℕ, List, [], ◌∷◌}
use Rattle.hcl_tokens.specs.Lexemes.{Lexeme}
use Rattle.hcl_tokens.specs.Regapped.{placed_tokens}
use Rattle.hcl_layout.specs.Gaps.{gaps}

-- each token with the gap before it
abbrev pub with_gaps : List ℕ → List Lexeme → List (ℕ × Lexeme)
with_gaps [] ts = []
with_gaps (g ∷ gs) [] = []
with_gaps (g ∷ gs) (t ∷ ts) = (g, t) ∷ with_gaps gs ts

abbrev pub printed_tokens : List Lexeme → List Lexeme
printed_tokens ts = placed_tokens 0 (with_gaps (gaps ts) ts)
