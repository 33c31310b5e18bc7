-- The grammar's classes of tokens, and the tokens as the grammar sees them. Comments, and the blanks that are tokens in
-- heredocs, are passed over; so are newlines between the delimiters of parentheses, brackets and template sequences
-- (HCL Native Syntax Specification, on comments, and on newlines in "Collection Values", "Functions and Function Calls"
-- and "Templates"). `for`, `in`, `if`, `else`, `endif` and `endfor` are identifiers that are keywords in some places,
-- and a number with digits alone may follow a dot (HCL Native Syntax Specification, on identifiers, for-expressions,
-- template directives and the legacy index).
use Rattle.std.specs.Prelude.{ℕ, ◌+◌, Bool, true, false, List, [], ◌∷◌, codes, if◌then◌else◌}
use Rattle.std.specs.List.{list_all}
use Rattle.std.specs.Str.{bytes_eq}
use Rattle.std.specs.Char.{is_ascii_digit}
use Rattle.hcl_tokens.specs.Lexemes.{Lexeme}
use Rattle.hcl_tokens.specs.declared.token.Kind.{Kind}
use Rattle.hcl_tokens.specs.declared.token.Kind.TheVariants as kind
use Rattle.hcl_grammar.specs.declared.class.Word.{Word}
use Rattle.hcl_grammar.specs.declared.class.Word.TheVariants.{Plain, For, In, If, Else, Endif, Endfor}
use Rattle.hcl_grammar.specs.declared.class.Class.{Class}
use Rattle.hcl_grammar.specs.declared.class.Class.TheVariants.{Trivia, Newline, Ident, Number, HeredocOpen, HeredocClose, QuoteOpen, QuoteClose, Lit, InterpOpen, ControlOpen, SeqClose, ParenOpen, ParenClose, BracketOpen, BracketClose, BraceOpen, BraceClose, Dot, Comma, Ellipsis, Question, Colon, ColonColon, Assign, Arrow, Not, Minus, Star, Binary}
use Rattle.hcl_grammar.specs.declared.class.Lookahead.{Lookahead}
use Rattle.hcl_grammar.specs.declared.expected.Newlines.{Newlines}
use Rattle.hcl_grammar.specs.declared.expected.Newlines.TheVariants.{Dropped}

abbrev pub word_of : List ℕ → Word
word_of text =
    if bytes_eq text (codes "for") then For else
    if bytes_eq text (codes "in") then In else
    if bytes_eq text (codes "if") then If else
    if bytes_eq text (codes "else") then Else else
    if bytes_eq text (codes "endif") then Endif else
    if bytes_eq text (codes "endfor") then Endfor else
    Plain

-- the class of a token of this kind and text
abbrev pub class_at : Kind → List ℕ → Class
class_at kind.Newline text = Newline
class_at kind.LineComment text = Trivia
class_at kind.InlineComment text = Trivia
class_at kind.Blank text = Trivia
class_at kind.Ident text = Ident (word_of text)
class_at kind.Number text = Number (list_all is_ascii_digit text)
class_at kind.HeredocOpen text = HeredocOpen
class_at kind.QuoteOpen text = QuoteOpen
class_at kind.ParenOpen text = ParenOpen
class_at kind.BracketOpen text = BracketOpen
class_at kind.BraceOpen text = BraceOpen
class_at kind.ParenClose text = ParenClose
class_at kind.BracketClose text = BracketClose
class_at kind.SeqClose text = SeqClose
class_at kind.BraceClose text = BraceClose
class_at kind.Dot text = Dot
class_at kind.Comma text = Comma
class_at kind.Ellipsis text = Ellipsis
class_at kind.Question text = Question
class_at kind.Colon text = Colon
class_at kind.ColonColon text = ColonColon
class_at kind.Assign text = Assign
class_at kind.Arrow text = Arrow
class_at kind.Not text = Not
class_at kind.Minus text = Minus
class_at kind.Plus text = Binary
class_at kind.Star text = Star
class_at kind.Slash text = Binary
class_at kind.Percent text = Binary
class_at kind.And text = Binary
class_at kind.Or text = Binary
class_at kind.Equal text = Binary
class_at kind.NotEqual text = Binary
class_at kind.Less text = Binary
class_at kind.Greater text = Binary
class_at kind.LessEqual text = Binary
class_at kind.GreaterEqual text = Binary
class_at kind.Lit text = Lit
class_at kind.InterpOpen text = InterpOpen
class_at kind.ControlOpen text = ControlOpen
class_at kind.QuoteClose text = QuoteClose
class_at kind.HeredocClose text = HeredocClose

abbrev pub class_of : Lexeme → Class
class_of t = class_at t.kind t.text

abbrev pub is_trivia : Class → Bool
is_trivia Trivia = true
is_trivia _ = false

-- whether a token of the class is a newline that is passed over too
abbrev pub drops : Newlines → Class → Bool
drops Dropped Newline = true
drops _ _ = false

-- the lookaheads of a list whose first token has this number
abbrev pub lookaheads_from : ℕ → List Lexeme → List Lookahead
lookaheads_from n [] = []
lookaheads_from n (t ∷ ts) =
    if is_trivia (class_of t) then lookaheads_from (n + 1) ts
    else record { class = class_of t; number = n } ∷ lookaheads_from (n + 1) ts

-- the lookaheads of a token list
abbrev pub lookaheads : List Lexeme → List Lookahead
lookaheads tokens = lookaheads_from 0 tokens
