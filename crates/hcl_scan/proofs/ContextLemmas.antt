-- The context of a place by the top of the stack, and that it is unique.
use Rattle.std.proofs.Common.{◌≡◌, Bool, true, false, List, [], ◌∷◌, Some, sym, ap, refl, ◌∙◌}
use Rattle.hcl_tokens.specs.Lexemes.{Opener, Quote, Heredoc, Sequence, Brace, Bracket, Paren, in_heredoc}
use Rattle.hcl_tokens.specs.Spelling.{context, Context, Template, Expression}
use Rattle.hcl_tokens.specs.Scans.{unclosed_opener}

abbrev pub is_expression : Context → Bool
is_expression Expression = true
is_expression (Template _) = false

abbrev pub is_quoted : Context → Bool
is_quoted (Template quoted) = quoted
is_quoted Expression = true

pub expression_is : (c : Context) → is_expression c ≡ true → c ≡ Expression
expression_is Expression h = refl
expression_is (Template quoted) h = absurd (cc)

pub not_both : (c : Context) (quoted : Bool) → c ≡ Expression → c ≡ Template quoted → ⊥
not_both c quoted e f = let k : true ≡ false = ap is_expression (sym e ∙ f) in cc

pub heredoc_on_top : (opens : List Opener) → context opens ≡ Template false → in_heredoc opens ≡ true
heredoc_on_top [] e = absurd (not_both Expression false refl e)
heredoc_on_top (Heredoc ∷ os) e = refl
heredoc_on_top (Quote ∷ os) e = absurd (let k : true ≡ false = ap is_quoted e in cc)
heredoc_on_top (Sequence ∷ os) e = absurd (not_both Expression false refl e)
heredoc_on_top (Brace ∷ os) e = absurd (not_both Expression false refl e)
heredoc_on_top (Bracket ∷ os) e = absurd (not_both Expression false refl e)
heredoc_on_top (Paren ∷ os) e = absurd (not_both Expression false refl e)

-- a quote on top is the one that must be closed first
pub quote_unclosed : (opens : List Opener) → context opens ≡ Template true → unclosed_opener opens ≡ Some Quote
quote_unclosed (Quote ∷ os) e = refl
quote_unclosed (Heredoc ∷ os) e = absurd (let k : false ≡ true = ap is_quoted e in cc)
quote_unclosed [] e = absurd (not_both Expression true refl e)
quote_unclosed (Sequence ∷ os) e = absurd (not_both Expression true refl e)
quote_unclosed (Brace ∷ os) e = absurd (not_both Expression true refl e)
quote_unclosed (Bracket ∷ os) e = absurd (not_both Expression true refl e)
quote_unclosed (Paren ∷ os) e = absurd (not_both Expression true refl e)
