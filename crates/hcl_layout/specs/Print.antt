-- The print of a token list: the gaps, as spaces, and the texts in turn. Blanks before a newline and at the end vanish;
-- all else is kept as it is. Our own choice, as `terraform fmt` treats text that it doesn't rewrite.
use Rattle.std.specs.Prelude.{ℕ, List, [], ◌∷◌, ◌++◌, replicate}
use Rattle.hcl_tokens.specs.Lexemes.{Lexeme}
use Rattle.hcl_layout.specs.Gaps.{gaps}

abbrev pub printed_text : List ℕ → List Lexeme → List ℕ
printed_text (g ∷ gs) (t ∷ ts) = (replicate g 32 ++ t.text) ++ printed_text gs ts
printed_text _ _ = []

abbrev pub print : List Lexeme → List ℕ
print ts = printed_text (gaps ts) ts
