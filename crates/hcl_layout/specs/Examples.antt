-- The layout at work on small texts, by computation: levels, columns, and blanks.
use Rattle.std.specs.Prelude.{◌≡◌, ℕ, refl, List, [], ◌∷◌, Some, None, codes, false}
use Rattle.hcl_tokens.specs.Lexemes.{Lexeme}
use Rattle.hcl_tokens.specs.declared.token.Kind.{Kind}
use Rattle.hcl_tokens.specs.declared.token.Kind.TheVariants.{Newline, LineComment, Ident, Number, QuoteOpen, ParenOpen, BracketOpen, BraceOpen, ParenClose, BracketClose, BraceClose, Dot, Comma, Assign, Minus, Lit, InterpOpen, SeqClose, QuoteClose}
use Rattle.hcl_layout.specs.Lines.{Line}
use Rattle.hcl_layout.specs.Levels.{Net, levels}
use Rattle.hcl_layout.specs.Cells.{assign_cell, trailing_comment}
use Rattle.hcl_layout.specs.Columns.{columns}
use Rattle.hcl_layout.specs.Gaps.{plain_gaps}

-- ---- levels, from the openers and the closers of each line

abbrev net : ℕ → ℕ → Net
net opens closes = record { opens = opens; closes = closes }

-- disk {
--   tags = {
--     name = "main"
--   }
-- }
nested : levels (net 1 0 ∷ net 1 0 ∷ net 0 0 ∷ net 0 1 ∷ net 0 1 ∷ []) ≡ 0 ∷ 1 ∷ 2 ∷ 1 ∷ 0 ∷ []
nested = refl

-- rules = [{
--   port = 80
-- }]
two_on_a_line : levels (net 2 0 ∷ net 0 0 ∷ net 0 2 ∷ []) ≡ 0 ∷ 1 ∷ 0 ∷ []
two_on_a_line = refl

-- names = keys(merge({
--   a = 1
--   }, {
--   b = 2
-- }))
closed_and_opened : levels (net 3 0 ∷ net 0 0 ∷ net 1 1 ∷ net 0 0 ∷ net 0 3 ∷ []) ≡ 0 ∷ 1 ∷ 1 ∷ 1 ∷ 0 ∷ []
closed_and_opened = refl

-- a = [1,
--   2,
-- 3]
closed_by_its_last : levels (net 1 0 ∷ net 0 0 ∷ net 0 1 ∷ []) ≡ 0 ∷ 1 ∷ 0 ∷ []
closed_by_its_last = refl

-- ---- columns, from the widths before the cells

-- name           = "web"
-- instance_count = 2
-- # a comment of its own ends a run
-- x = 1
two_runs : columns (Some 4 ∷ Some 14 ∷ None ∷ Some 1 ∷ []) ≡ Some 14 ∷ Some 14 ∷ None ∷ Some 1 ∷ []
two_runs = refl

-- the widest in the middle
around : columns (Some 2 ∷ Some 5 ∷ Some 3 ∷ []) ≡ Some 5 ∷ Some 5 ∷ Some 5 ∷ []
around = refl

-- ---- blanks before the tokens of a line

abbrev token : Kind → List ℕ → Lexeme
token kind text = record { kind = kind; text = text; start = 0; inside_heredoc = false }

abbrev word : List ℕ → Lexeme
word text = token Ident text

-- a = max(1, -b)
abbrev call : Line
call =
    word (codes "a") ∷ token Assign (codes "=") ∷ word (codes "max") ∷ token ParenOpen (codes "(") ∷ token Number (codes "1") ∷ token Comma (codes ",")
    ∷ token Minus (codes "-") ∷ word (codes "b") ∷ token ParenClose (codes ")") ∷ token Newline (codes "\n") ∷ []

call_spaced : plain_gaps 0 call ≡ 0 ∷ 1 ∷ 1 ∷ 0 ∷ 0 ∷ 0 ∷ 1 ∷ 0 ∷ 0 ∷ 0 ∷ []
call_spaced = refl

call_assigns : assign_cell call ≡ Some 1
call_assigns = refl

--     a - b["x ${c.d}"] # e           at level 2
abbrev index : Line
index =
    word (codes "a") ∷ token Minus (codes "-") ∷ word (codes "b") ∷ token BracketOpen (codes "[") ∷ token QuoteOpen (codes "\"") ∷ token Lit (codes "x ")
    ∷ token InterpOpen (codes "${") ∷ word (codes "c") ∷ token Dot (codes ".") ∷ word (codes "d") ∷ token SeqClose (codes "}") ∷ token QuoteClose (codes "\"")
    ∷ token BracketClose (codes "]") ∷ token LineComment (codes "# e") ∷ token Newline (codes "\n") ∷ []

index_spaced : plain_gaps 2 index ≡ 4 ∷ 1 ∷ 1 ∷ 0 ∷ 0 ∷ 0 ∷ 0 ∷ 0 ∷ 0 ∷ 0 ∷ 0 ∷ 0 ∷ 0 ∷ 1 ∷ 0 ∷ []
index_spaced = refl

index_commented : trailing_comment index ≡ Some 13
index_commented = refl

-- b { c = {} }
abbrev braces : Line
braces =
    word (codes "b") ∷ token BraceOpen (codes "{") ∷ word (codes "c") ∷ token Assign (codes "=") ∷ token BraceOpen (codes "{") ∷ token BraceClose (codes "}")
    ∷ token BraceClose (codes "}") ∷ []

braces_spaced : plain_gaps 0 braces ≡ 0 ∷ 1 ∷ 1 ∷ 1 ∷ 1 ∷ 0 ∷ 1 ∷ []
braces_spaced = refl

-- the brace before the sign is closed after it, so the line has no cell
braces_assign_nothing : assign_cell braces ≡ None
braces_assign_nothing = refl
