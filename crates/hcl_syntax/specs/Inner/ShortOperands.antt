-- Operands of a few tokens, and the tokens that end an expression after one.
use Rattle.std.specs.Prelude.{◌≡◌, ◌<◌, ◌≤◌, ℕ, Bool, true, false, List, [], ◌∷◌, length, Ok}
use Rattle.hcl_grammar.specs.declared.class.Lookahead.{Lookahead}
use Rattle.hcl_grammar.specs.declared.class.Class.{Class}
use Rattle.hcl_grammar.specs.declared.class.Class.TheVariants.{Ident, Number, QuoteOpen, Dot, Lit, QuoteClose, Newline, Comma, ParenClose, BracketClose, BraceClose, SeqClose, Assign, Arrow, Colon, Ellipsis}
use Rattle.hcl_grammar.specs.declared.expected.Newlines.{Newlines}
use Rattle.hcl_grammar.specs.declared.expected.Newlines.TheVariants.{Seen}
use Rattle.hcl_grammar.specs.declared.expected.Terminal.TheVariants.{EndQuote}
use Rattle.hcl_grammar.specs.Grammar.{◌at◌, the, expr, after, after_ident, parts}
use Rattle.hcl_syntax.specs.Inner.Parsing.{Parses}

-- no expression continues with the token, and it isn't skipped
abbrev pub ends_expression : Newlines → Class → Bool
ends_expression Seen Newline = true
ends_expression m Comma = true
ends_expression m ParenClose = true
ends_expression m BracketClose = true
ends_expression m BraceClose = true
ends_expression m SeqClose = true
ends_expression m Assign = true
ends_expression m Arrow = true
ends_expression m Colon = true
ends_expression m Ellipsis = true
ends_expression m _ = false

-- an operand by itself, apart from its continuation
abbrev pub is_short_operand : Class → Bool
is_short_operand (Ident w) = true
is_short_operand (Number d) = true
is_short_operand _ = false

abbrev pub is_opening_quote : Class → Bool
is_opening_quote QuoteOpen = true
is_opening_quote _ = false

abbrev pub is_dot : Class → Bool
is_dot Dot = true
is_dot _ = false

abbrev pub is_identifier : Class → Bool
is_identifier (Ident w) = true
is_identifier _ = false

-- the text between quotes without sequences, and the closing quote
abbrev pub is_quoted : Class → Class → Bool
is_quoted Lit QuoteClose = true
is_quoted _ _ = false

-- an expression ends in front of the tokens
pub record ExpressionEnds (m : Newlines) (left : List Lookahead) : Type 0 where
  pub token : Lookahead
  pub more : List Lookahead
  pub is : left ≡ token ∷ more
  pub ends : ends_expression m token.class ≡ true

-- The old tokens down to the remaining ones are steps after an operand, or none: if an expression ends before the
-- remaining ones, there is nothing else.
pub record AreSteps (old left : List Lookahead) : Type 0 where
  pub after_ident : (m : Newlines) (count : ℕ) → ExpressionEnds m left → Parses count (after_ident at m ∷ []) old (Ok (tt {0})) left
  pub after : (m : Newlines) (count : ℕ) → ExpressionEnds m left → Parses count (after at m ∷ []) old (Ok (tt {0})) left
  pub shorter : length left ≤ length old

-- such steps for the rest of a text between quotes, after its opening quote
pub record IsQuoted (old left : List Lookahead) : Type 0 where
  pub parts : (m : Newlines) (count : ℕ) → ExpressionEnds m left → Parses count (parts at m ∷ the EndQuote at m ∷ after at m ∷ []) old (Ok (tt {0})) left
  pub shorter : length left ≤ length old

-- such steps for a whole operand
pub record IsOperand (old left : List Lookahead) : Type 0 where
  pub reads : (m : Newlines) (count : ℕ) → ExpressionEnds m left → Parses count (expr at m ∷ []) old (Ok (tt {0})) left
  pub shorter : length left < length old
