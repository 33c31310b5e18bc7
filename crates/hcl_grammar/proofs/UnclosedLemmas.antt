-- The openers that a state of the predictor must close: those whose closers its symbols still read, the innermost
-- first. Row by row they are the openers that the scan has open.
use Rattle.std.proofs.Common.{◌≡◌, ℕ, List, [], ◌∷◌, ◌++◌}
use Rattle.hcl_tokens.specs.Lexemes.{Opener, Quote, Heredoc, Sequence, Brace, Bracket, Paren}
use Rattle.hcl_grammar.specs.declared.class.Class.{Class}
use Rattle.hcl_grammar.specs.declared.class.Class.TheVariants.{HeredocOpen, HeredocClose, QuoteOpen, QuoteClose, InterpOpen, ControlOpen, SeqClose, ParenOpen, ParenClose, BracketOpen, BracketClose, BraceOpen, BraceClose}
use Rattle.hcl_grammar.specs.declared.expected.Terminal.{Terminal}
use Rattle.hcl_grammar.specs.declared.expected.Terminal.TheVariants.{EndParen, EndBracket, EndBrace, EndSequence, EndQuote, EndHeredoc}
use Rattle.hcl_grammar.specs.Grammar.{Symbol, the, start, index, tuple, tuple_next, tuple_item, tuple_if, object, object_next, object_item, group, object_if, args, arg_next, directive, section_directive, Marked, ◌at◌, Action, none, nothing, reads, opens, closes}

abbrev pub awaits : Terminal → List Opener
awaits EndParen = Paren ∷ []
awaits EndBracket = Bracket ∷ []
awaits EndBrace = Brace ∷ []
awaits EndSequence = Sequence ∷ []
awaits EndQuote = Quote ∷ []
awaits EndHeredoc = Heredoc ∷ []
awaits _ = []

abbrev pub unclosed_in : Symbol → List Opener
unclosed_in (the e) = awaits e
unclosed_in start = Brace ∷ []
unclosed_in index = Bracket ∷ []
unclosed_in tuple = Bracket ∷ []
unclosed_in tuple_next = Bracket ∷ []
unclosed_in tuple_item = Bracket ∷ []
unclosed_in tuple_if = Bracket ∷ []
unclosed_in object = Brace ∷ []
unclosed_in object_next = Brace ∷ []
unclosed_in object_item = Brace ∷ []
unclosed_in group = Brace ∷ []
unclosed_in object_if = Brace ∷ []
unclosed_in args = Paren ∷ []
unclosed_in arg_next = Paren ∷ []
unclosed_in (directive n) = Sequence ∷ []
unclosed_in (section_directive e n) = Sequence ∷ []
unclosed_in _ = []

abbrev pub unclosed_in_all : List Marked → List Opener
unclosed_in_all [] = []
unclosed_in_all (s at m ∷ ss) = unclosed_in s ++ unclosed_in_all ss

-- a token of the class turns the openers `a` into `b`
abbrev pub Shift : Class → List Opener → List Opener → Type 0
Shift ParenOpen a b = b ≡ Paren ∷ a
Shift BracketOpen a b = b ≡ Bracket ∷ a
Shift BraceOpen a b = b ≡ Brace ∷ a
Shift InterpOpen a b = b ≡ Sequence ∷ a
Shift ControlOpen a b = b ≡ Sequence ∷ a
Shift QuoteOpen a b = b ≡ Quote ∷ a
Shift HeredocOpen a b = b ≡ Heredoc ∷ a
Shift ParenClose a b = a ≡ Paren ∷ b
Shift BracketClose a b = a ≡ Bracket ∷ b
Shift BraceClose a b = a ≡ Brace ∷ b
Shift SeqClose a b = a ≡ Sequence ∷ b
Shift QuoteClose a b = a ≡ Quote ∷ b
Shift HeredocClose a b = a ≡ Heredoc ∷ b
Shift _ a b = b ≡ a

-- P holds of the number of each directive's `%{` in the state
abbrev pub HaveNumbers : (ℕ → Type 0) → List Marked → Type 0
HaveNumbers P [] = Unit {0}
HaveNumbers P (directive n at m ∷ ss) = P n × HaveNumbers P ss
HaveNumbers P (section_directive e n at m ∷ ss) = P n × HaveNumbers P ss
HaveNumbers P (s at m ∷ ss) = HaveNumbers P ss

-- the row of a symbol that must close a, at a token of the class: the openers afterwards, and P of the numbers
abbrev pub RowMoves : (ℕ → Type 0) → Action → List Opener → Class → Type 0
RowMoves P none a c = Unit {0}
RowMoves P nothing a c = [] ≡ a
RowMoves P (reads xs) a c = Shift c a (unclosed_in_all xs) × HaveNumbers P xs
RowMoves P (opens n xs) a c = Shift c a (unclosed_in_all xs) × HaveNumbers P xs × P n
RowMoves P (closes xs) a c = Shift c a (unclosed_in_all xs) × HaveNumbers P xs
