-- A text made of tokens and blanks: each token with the number of spaces before it, and the numbers that leave the
-- tokens unchanged. Nothing here depends on why a blank is inserted. Our own definitions; the law `other_gaps` of
-- `hcl_scan` proves that these numbers leave the tokens unchanged.
use Rattle.std.specs.Prelude.{ℕ, ◌+◌, ◌==◌, ◌||◌, not, Bool, true, IsTrue, List, [], ◌∷◌, ◌++◌, length, if◌then◌else◌, replicate, map}
use Rattle.hcl_tokens.specs.Lexemes.{Lexeme}
use Rattle.hcl_tokens.specs.Kinds.{is}
use Rattle.hcl_tokens.specs.Neighbours.{joins}
use Rattle.hcl_tokens.specs.declared.token.Kind.{Kind}
use Rattle.hcl_tokens.specs.declared.token.Kind.TheVariants.{LineComment, Lit, InterpOpen, ControlOpen, QuoteClose, HeredocClose, Dot}

-- the tokens without the gaps
abbrev pub without_gaps : List (ℕ × Lexeme) → List Lexeme
without_gaps ps = map (λ p. p.1) ps

-- each gap as spaces, followed by the token's text
abbrev pub text_with_gaps : List (ℕ × Lexeme) → List ℕ
text_with_gaps [] = []
text_with_gaps (p ∷ ps) = replicate p.0 32 ++ (p.1.text ++ text_with_gaps ps)

-- the tokens with their offsets in that text, whose first byte has this offset
abbrev pub placed_tokens : ℕ → List (ℕ × Lexeme) → List Lexeme
placed_tokens at [] = []
placed_tokens at (p ∷ ps) =
    record {
      kind = p.1.kind;
      text = p.1.text;
      start = at + p.0;
      inside_heredoc = p.1.inside_heredoc;
    } ∷ placed_tokens (at + p.0 + length p.1.text) ps

-- a token of templates: blanks before it would be literal text
abbrev pub is_template : Kind → Bool
is_template k =
    is Lit k || is InterpOpen k || is ControlOpen k || is QuoteClose k || is HeredocClose k

-- no blank may stand between a token of this kind and the next: a comment would take up the blanks, and in a template
-- or a heredoc they are text
abbrev pub touches : Kind → Lexeme → Bool
touches LineComment t = true
touches _ t = is_template t.kind || t.inside_heredoc

-- a gap of this many blanks may stand between a token of this kind and the next
abbrev pub gap_fits : Bool → Kind → Lexeme → ℕ → Bool
gap_fits after_dot before t gap =
    if touches before t then gap == 0
    else (not (gap == 0) || not (joins after_dot before t.kind t.text))

-- every gap fits, if the first token follows one of this kind
abbrev pub AllFit : Bool → Kind → List (ℕ × Lexeme) → Type 0
AllFit after_dot before [] = Unit {0}
AllFit after_dot before (p ∷ ps) =
    IsTrue (gap_fits after_dot before p.1 p.0) × AllFit (is Dot before) p.1.kind ps
