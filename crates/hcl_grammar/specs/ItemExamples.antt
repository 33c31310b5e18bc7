-- Worked examples of items: small files, by computation.
use Rattle.std.specs.Prelude.{◌≡◌, ℕ, refl, List, [], ◌∷◌, codes, false}
use Rattle.hcl_tokens.specs.Lexemes.{Lexeme}
use Rattle.hcl_tokens.specs.declared.token.Kind.{Kind}
use Rattle.hcl_tokens.specs.declared.token.Kind.TheVariants.{Newline, LineComment, Ident, Number, QuoteOpen, BraceOpen, BraceClose, Dot, Assign, Lit, QuoteClose, NotEqual}
use Rattle.hcl_grammar.specs.Items.{outline}
use Rattle.hcl_grammar.specs.declared.item.Item.TheVariants as item

abbrev token : Kind → List ℕ → Lexeme
token kind text = record { kind = kind; text = text; start = 0; inside_heredoc = false }

-- b "x" {
--   c = 1
-- }
abbrev labelled : List Lexeme
labelled =
    token Ident (codes "b") ∷ token QuoteOpen (codes "\"") ∷ token Lit (codes "x") ∷ token QuoteClose (codes "\"") ∷ token BraceOpen (codes "{") ∷ token Newline (codes "\n")
    ∷ token Ident (codes "c") ∷ token Assign (codes "=") ∷ token Number (codes "1") ∷ token Newline (codes "\n") ∷ token BraceClose (codes "}") ∷ token Newline (codes "\n") ∷ []

outline_labelled : outline labelled ≡
    item.Block 0 0 11 ∷ item.Label (record { first = 1; last = 3 }) ∷ item.Attribute 1 6 8 9 ∷ []
outline_labelled = refl

-- variable "n" {
--   v {
--     c = var.n != var.m
--   }
-- }
-- x = "${var.n}"
abbrev own : List Lexeme
own =
    token Ident (codes "variable") ∷ token QuoteOpen (codes "\"") ∷ token Lit (codes "n") ∷ token QuoteClose (codes "\"") ∷ token BraceOpen (codes "{") ∷ token Newline (codes "\n")
    ∷ token Ident (codes "v") ∷ token BraceOpen (codes "{") ∷ token Newline (codes "\n")
    ∷ token Ident (codes "c") ∷ token Assign (codes "=") ∷ token Ident (codes "var") ∷ token Dot (codes ".") ∷ token Ident (codes "n") ∷ token NotEqual (codes "!=")
    ∷ token Ident (codes "var") ∷ token Dot (codes ".") ∷ token Ident (codes "m") ∷ token Newline (codes "\n")
    ∷ token BraceClose (codes "}") ∷ token Newline (codes "\n") ∷ token BraceClose (codes "}") ∷ token Newline (codes "\n") ∷ []

outline_own : outline own ≡
    item.Block 0 0 22 ∷ item.Label (record { first = 1; last = 3 }) ∷ item.Block 1 6 20 ∷ item.Attribute 2 9 11 18 ∷ []
outline_own = refl

-- a = { # c
--   b = 1
-- } # d
abbrev with_comments : List Lexeme
with_comments =
    token Ident (codes "a") ∷ token Assign (codes "=") ∷ token BraceOpen (codes "{") ∷ token LineComment (codes "# c") ∷ token Newline (codes "\n")
    ∷ token Ident (codes "b") ∷ token Assign (codes "=") ∷ token Number (codes "1") ∷ token Newline (codes "\n")
    ∷ token BraceClose (codes "}") ∷ token LineComment (codes "# d") ∷ token Newline (codes "\n") ∷ []

outline_with_comments : outline with_comments ≡ item.Attribute 0 0 2 10 ∷ []
outline_with_comments = refl
