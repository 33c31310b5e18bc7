-- The grammar of files as a table for a predictive parser: for each symbol at the front of the parser's state, and each
-- class of the next token, the symbols that replace it. The language is that of the HCL Native Syntax Specification,
-- "Structural Elements" (files, attributes, blocks), "Expressions" and "Templates". The rows are our own choice: no
-- symbol has two rows for a class, so one token of lookahead decides.
use Rattle.std.specs.Prelude.{ℕ, Bool, true, false, List, [], ◌∷◌, ◌++◌, if◌then◌else◌}
use Rattle.hcl_grammar.specs.declared.class.Lookahead.{Lookahead}
use Rattle.hcl_grammar.specs.declared.class.Class.{Class}
use Rattle.hcl_grammar.specs.declared.class.Class.TheVariants.{Newline, Ident, Number, HeredocOpen, HeredocClose, QuoteOpen, QuoteClose, Lit, InterpOpen, ControlOpen, SeqClose, ParenOpen, ParenClose, BracketOpen, BracketClose, BraceOpen, BraceClose, Dot, Comma, Ellipsis, Question, Colon, ColonColon, Assign, Arrow, Not, Minus, Star, Binary}
use Rattle.hcl_grammar.specs.declared.class.Word.TheVariants.{For, In, If, Else, Endif, Endfor}
use Rattle.hcl_grammar.specs.declared.expected.Newlines.{Newlines}
use Rattle.hcl_grammar.specs.declared.expected.Newlines.TheVariants.{Seen, Dropped}
use Rattle.hcl_grammar.specs.declared.expected.Terminal.{Terminal}
use Rattle.hcl_grammar.specs.declared.expected.Terminal.TheVariants.{Name, InWord, IfWord, ForWord, Equals, Separator, FatArrow, CommaSign, Ellipses, Asterisk, EndParen, EndBracket, EndBrace, EndSequence, EndQuote, EndHeredoc}
use Rattle.hcl_grammar.specs.declared.expected.Section.{Section}
use Rattle.hcl_grammar.specs.declared.expected.Section.TheVariants.{InIf, InElse, InFor}

-- What a state can expect. A directive's symbol has the number of its `%{`.
pub data Symbol : Type 0 where
  the : Terminal → Symbol
  file rest labels label_literal start body eol : Symbol
  expr after_ident path after step index : Symbol
  tuple tuple_next tuple_item tuple_if names : Symbol
  object separator object_next object_item group object_if : Symbol
  args arg_next parts : Symbol
  directive : ℕ → Symbol
  inside : Section → Symbol
  section_directive : Section → ℕ → Symbol

-- a symbol, and whether it sees newlines while it is first
infix 90 ◌at◌
pub data Marked : Type 0 where
  ◌at◌ : Symbol → Newlines → Marked

-- What the row of a symbol does with a token: there is no row; the symbol is removed and the token stays; the token is
-- read, and these symbols replace the first. Two kinds of rows count directives: one opens a directive, whose `%{` has
-- the number, and one closes the innermost.
pub data Action : Type 0 where
  none : Action
  nothing : Action
  reads : List Marked → Action
  opens : ℕ → List Marked → Action
  closes : List Marked → Action

-- the row of a symbol that begins with another: that one's row, with these symbols after it
infixl 5 ◌then◌
abbrev pub ◌then◌ : Action → List Marked → Action
(reads xs) then ss = reads (xs ++ ss)
(opens n xs) then ss = opens n (xs ++ ss)
(closes xs) then ss = closes (xs ++ ss)
_ then ss = none

-- whether a terminal expects a token of the class
abbrev pub fits : Terminal → Class → Bool
fits Name (Ident w) = true
fits InWord (Ident In) = true
fits IfWord (Ident If) = true
fits ForWord (Ident For) = true
fits Equals Assign = true
fits Separator Colon = true
fits FatArrow Arrow = true
fits CommaSign Comma = true
fits Ellipses Ellipsis = true
fits Asterisk Star = true
fits EndParen ParenClose = true
fits EndBracket BracketClose = true
fits EndBrace BraceClose = true
fits EndSequence SeqClose = true
fits EndQuote QuoteClose = true
fits EndHeredoc HeredocClose = true
fits _ _ = false

-- The rows with which others begin: labels, an expression, the continuation of an operand (steps, an index, an
-- operator, a conditional), the condition of a for-expression in an object, a directive.
abbrev pub shared_row : Symbol → Newlines → ℕ → Class → Action
shared_row labels m n (Ident w) = reads (labels at m ∷ [])
shared_row labels m n QuoteOpen = reads (label_literal at m ∷ the EndQuote at m ∷ labels at m ∷ [])
shared_row labels m n BraceOpen = reads (start at m ∷ [])
shared_row expr m n Minus = reads (expr at m ∷ [])
shared_row expr m n Not = reads (expr at m ∷ [])
shared_row expr m n (Number d) = reads (after at m ∷ [])
shared_row expr m n (Ident w) = reads (after_ident at m ∷ [])
shared_row expr m n QuoteOpen = reads (parts at m ∷ the EndQuote at m ∷ after at m ∷ [])
shared_row expr m n HeredocOpen = reads (parts at m ∷ the EndHeredoc at m ∷ after at m ∷ [])
shared_row expr m n ParenOpen = reads (expr at Dropped ∷ the EndParen at Dropped ∷ after at m ∷ [])
shared_row expr m n BracketOpen = reads (tuple at Dropped ∷ after at m ∷ [])
shared_row expr m n BraceOpen = reads (object at Seen ∷ after at m ∷ [])
shared_row after m n Dot = reads (step at m ∷ after at m ∷ [])
shared_row after m n BracketOpen = reads (index at Dropped ∷ after at m ∷ [])
shared_row after m n Minus = reads (expr at m ∷ [])
shared_row after m n Star = reads (expr at m ∷ [])
shared_row after m n Binary = reads (expr at m ∷ [])
shared_row after m n Question = reads (expr at m ∷ the Separator at m ∷ expr at m ∷ [])
shared_row after m n _ = nothing
shared_row object_if m n (Ident If) = reads (expr at m ∷ the EndBrace at m ∷ [])
shared_row object_if m n BraceClose = reads []
shared_row (directive k) m n (Ident If) = opens k
    (expr at m ∷ the EndSequence at m ∷ inside InIf at m ∷ [])
shared_row (directive k) m n (Ident For) = opens k
    (the Name at m ∷ names at m ∷ expr at m ∷ the EndSequence at m ∷ inside InFor at m ∷ [])
shared_row _ _ _ _ = none

-- THE TABLE: the row of a symbol with this mark, for a token of this number and class
abbrev pub row_of : Symbol → Newlines → ℕ → Class → Action
row_of (the e) m n c = if fits e c then reads [] else none
-- Files, attributes and blocks. A block's body is on lines of its own, or is one attribute on one line.
row_of file m n Newline = reads (file at m ∷ [])
row_of file m n (Ident w) = reads (rest at m ∷ file at m ∷ [])
row_of rest m n Assign = reads (expr at Seen ∷ eol at m ∷ [])
row_of rest m n c = shared_row labels m n c
row_of label_literal m n Lit = reads []
row_of label_literal m n QuoteClose = nothing
row_of start m n Newline = reads (body at m ∷ the EndBrace at m ∷ eol at m ∷ [])
row_of start m n (Ident w) = reads
    (the Equals at m ∷ expr at Seen ∷ the EndBrace at m ∷ eol at m ∷ [])
row_of start m n BraceClose = reads (eol at m ∷ [])
row_of body m n Newline = reads (body at m ∷ [])
row_of body m n (Ident w) = reads (rest at m ∷ body at m ∷ [])
row_of body m n BraceClose = nothing
row_of eol m n Newline = reads []
-- Expressions. After an operand the row of `after` decides; a name with `::` has more parts or is called.
row_of after_ident m n ParenOpen = reads (args at Dropped ∷ after at m ∷ [])
row_of after_ident m n ColonColon = reads (the Name at m ∷ path at m ∷ [])
row_of after_ident m n c = shared_row after m n c
row_of path m n ColonColon = reads (the Name at m ∷ path at m ∷ [])
row_of path m n ParenOpen = reads (args at Dropped ∷ after at m ∷ [])
row_of step m n (Ident w) = reads []
row_of step m n (Number true) = reads []
row_of step m n Star = reads []
row_of index m n Star = reads (the EndBracket at m ∷ [])
row_of index m n c = shared_row expr m n c then (the EndBracket at m ∷ [])
-- Tuples and objects. A `for` at the front always begins a for-expression.
row_of names m n Comma = reads (the Name at m ∷ the InWord at m ∷ [])
row_of names m n (Ident In) = reads []
row_of tuple m n (Ident For) = reads
    (the Name at m ∷ names at m ∷ expr at m ∷ the Separator at m ∷ expr at m ∷ tuple_if at m ∷ [])
row_of tuple m n BracketClose = reads []
row_of tuple m n c = shared_row expr m n c then (tuple_next at m ∷ [])
row_of tuple_next m n Comma = reads (tuple_item at m ∷ [])
row_of tuple_next m n BracketClose = reads []
row_of tuple_item m n BracketClose = reads []
row_of tuple_item m n c = shared_row expr m n c then (tuple_next at m ∷ [])
row_of tuple_if m n (Ident If) = reads (expr at m ∷ the EndBracket at m ∷ [])
row_of tuple_if m n BracketClose = reads []
row_of object m n Newline = reads (object at m ∷ [])
row_of object m n (Ident For) = reads
    (the Name at Dropped ∷ names at Dropped ∷ expr at Dropped ∷ the Separator at Dropped
    ∷ expr at Dropped ∷ the FatArrow at Dropped ∷ expr at Dropped ∷ group at Dropped ∷ [])
row_of object m n BraceClose = reads []
row_of object m n c = shared_row expr m n c then
    (separator at m ∷ expr at m ∷ object_next at m ∷ [])
row_of separator m n Assign = reads []
row_of separator m n Colon = reads []
row_of object_next m n Comma = reads (object_item at m ∷ [])
row_of object_next m n Newline = reads (object_item at m ∷ [])
row_of object_next m n BraceClose = reads []
row_of object_item m n Newline = reads (object_item at m ∷ [])
row_of object_item m n BraceClose = reads []
row_of object_item m n c = shared_row expr m n c then
    (separator at m ∷ expr at m ∷ object_next at m ∷ [])
row_of group m n Ellipsis = reads (object_if at m ∷ [])
row_of group m n c = shared_row object_if m n c
-- the arguments of a call
row_of args m n ParenClose = reads []
row_of args m n c = shared_row expr m n c then (arg_next at m ∷ [])
row_of arg_next m n Comma = reads (args at m ∷ [])
row_of arg_next m n Ellipsis = reads (the EndParen at m ∷ [])
row_of arg_next m n ParenClose = reads []
-- Templates. `parts` is a template outside directives, and `inside` one in a section of a
-- directive.
row_of parts m n Lit = reads (parts at m ∷ [])
row_of parts m n InterpOpen = reads
    (expr at Dropped ∷ the EndSequence at Dropped ∷ parts at m ∷ [])
row_of parts m n ControlOpen = reads (directive n at Dropped ∷ parts at m ∷ [])
row_of parts m n QuoteClose = nothing
row_of parts m n HeredocClose = nothing
row_of (inside e) m n Lit = reads (inside e at m ∷ [])
row_of (inside e) m n InterpOpen = reads
    (expr at Dropped ∷ the EndSequence at Dropped ∷ inside e at m ∷ [])
row_of (inside e) m n ControlOpen = reads (section_directive e n at m ∷ [])
row_of (section_directive InIf k) m n (Ident Else) = reads
    (the EndSequence at m ∷ inside InElse at m ∷ [])
row_of (section_directive InIf k) m n (Ident Endif) = closes (the EndSequence at m ∷ [])
row_of (section_directive InElse k) m n (Ident Endif) = closes (the EndSequence at m ∷ [])
row_of (section_directive InFor k) m n (Ident Endfor) = closes (the EndSequence at m ∷ [])
row_of (section_directive e k) m n c = shared_row (directive k) m n c then (inside e at m ∷ [])
-- all other symbols
row_of s m n c = shared_row s m n c

abbrev pub row : Symbol → Newlines → Lookahead → Action
row s m t = row_of s m t.number t.class

-- whether the end of input removes the symbol
abbrev pub ends : Symbol → Bool
ends file = true
ends eol = true
ends after_ident = true
ends after = true
ends _ = false
