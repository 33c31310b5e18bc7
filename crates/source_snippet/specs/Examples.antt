-- Snippets of small texts, by computation.
use Rattle.std.specs.Prelude.{◌≡◌, ℕ, refl, [], ◌∷◌, ◌++◌, codes, replicate}
use Rattle.unicode_segmentation.proofs.Computing.{unicode_segmentation}
use Rattle.unicode_width.proofs.Computing.{unicode_width}
use Rattle.hcl_source.specs.declared.fault.Position.{Position}
use Rattle.source_snippet.specs.Snippets.{snippet}

abbrev at : ℕ → ℕ → Position
at line column = record { line = line; column = column }

second_line : snippet (codes "a = 1\nb = ]\n") (at 2 5) ≡ codes "  b = ]\n      ^\n"
unfolding unicode_segmentation unicode_width
second_line = refl

-- a tab is one column of a place, and a blank of the shown line
tab : snippet (codes "\tb = ]") (at 1 6) ≡ codes "   b = ]\n       ^\n"
unfolding unicode_segmentation unicode_width
tab = refl

-- U+540D is one column of a place, and two on a terminal
wide : snippet (codes "\"" ++ (0xE5 ∷ 0x90 ∷ 0x8D ∷ codes "\" ]")) (at 1 5) ≡ codes "  \"" ++ (0xE5 ∷ 0x90 ∷ 0x8D ∷ codes "\" ]\n       ^\n")
unfolding unicode_segmentation unicode_width
wide = refl

-- ESC, and U+202E, which turns the direction of writing
control : snippet (0x1B ∷ codes "[2J" ++ (0xE2 ∷ 0x80 ∷ 0xAE ∷ codes "]")) (at 1 6) ≡ codes "   [2J ]\n       ^\n"
unfolding unicode_segmentation unicode_width
control = refl

crlf : snippet (codes "a\r\nb ]\r\n") (at 2 3) ≡ codes "  b ] \n    ^\n"
unfolding unicode_segmentation unicode_width
crlf = refl

-- past the end of the line, the caret is right after it
past_the_end : snippet (codes "a = 1") (at 1 9) ≡ codes "  a = 1\n       ^\n"
unfolding unicode_segmentation unicode_width
past_the_end = refl

empty_line : snippet (codes "a {\n\n}") (at 2 1) ≡ []
unfolding unicode_segmentation unicode_width
empty_line = refl

no_such_line : snippet (codes "a {\n") (at 3 1) ≡ []
unfolding unicode_segmentation unicode_width
no_such_line = refl

too_long : snippet (replicate 241 97) (at 1 1) ≡ []
unfolding unicode_segmentation unicode_width
too_long = refl
