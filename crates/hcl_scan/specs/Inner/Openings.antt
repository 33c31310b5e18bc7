-- The scanner's stack, and the openers, offsets and hidden text that it represents. Our own choice of representation: a
-- heredoc is stored as the end of its closing marker and the end of the visible text around it.
use Rattle.std.specs.Prelude.{ℕ, ◌-◌, ◌||◌, Bool, true, false, List, [], ◌∷◌, length, map, drop, if◌then◌else◌, slice_range, Option, Some, None}
use Rattle.hcl_tokens.specs.Lexemes as lexemes
use Rattle.hcl_tokens.specs.Lexemes.{is_group, open_after, same_opener}
use Rattle.hcl_tokens.specs.Spelling.{Context, Template, Expression, context_in}
use Rattle.hcl_tokens.specs.Scans.{Hidden, must_be_closed}
use Rattle.hcl_scan.specs.Inner.Readings.{closes_in, top_reading}
use Rattle.hcl_scan.specs.declared.stack.Opener.{Opener}
use Rattle.hcl_scan.specs.declared.stack.Opener.TheVariants.{Quote, Heredoc, Sequence, Brace, Bracket, Paren}
use Rattle.hcl_scan.specs.declared.stack.Opened.{Opened}
use Rattle.hcl_tokens.specs.Balanced.{is_closer, is_opener}
use Rattle.hcl_tokens.specs.Kinds.{is}
use Rattle.hcl_tokens.specs.declared.token.Kind.{Kind}
use Rattle.hcl_tokens.specs.declared.token.Kind.TheVariants.{HeredocOpen, QuoteOpen, InterpOpen, ControlOpen, ParenOpen, BracketOpen, BraceOpen, QuoteClose, HeredocClose}

abbrev pub opener_of : Opener → lexemes.Opener
opener_of Quote = lexemes.Quote
opener_of (Heredoc closer_end outer_end) = lexemes.Heredoc
opener_of Sequence = lexemes.Sequence
opener_of Brace = lexemes.Brace
opener_of Bracket = lexemes.Bracket
opener_of Paren = lexemes.Paren

-- the open constructs
abbrev pub openers_of : List Opened → List lexemes.Opener
openers_of stack = map (λ o. opener_of o.by) stack

-- where each of these was opened
abbrev pub offsets_in : List Opened → List ℕ
offsets_in stack = map (λ o. o.at) stack

-- the hidden text, if the visible text ends at `end`
abbrev pub hidden_under : List ℕ → ℕ → Opener → (ℕ → List Hidden) → List Hidden
hidden_under text end (Heredoc closer_end outer_end) above = record { closer = slice_range text end closer_end; after = slice_range text closer_end outer_end } ∷ above outer_end
hidden_under text end _ above = above end

abbrev pub hidden_of : List ℕ → List Opened → ℕ → List Hidden
hidden_of text [] end = []
hidden_of text (o ∷ stack) end = hidden_under text end o.by (hidden_of text stack)

abbrev pub is_group_by : Opener → Bool
is_group_by by = is_group (opener_of by)

-- without parens and brackets on top
abbrev pub popped_groups : List Opened → List Opened
popped_groups [] = []
popped_groups (o ∷ stack) = if is_group_by o.by then popped_groups stack else o ∷ stack

-- without the top, if it is this opener
abbrev pub popped_if : lexemes.Opener → List Opened → List Opened
popped_if opener [] = []
popped_if opener (o ∷ stack) = if same_opener (opener_of o.by) opener then stack else o ∷ stack

-- without the constructs that a token of this kind closes: the token leaves the rest open
abbrev pub without_closed : Kind → List Opened → List Opened
without_closed kind stack = drop (length stack - length (open_after kind (openers_of stack))) stack

-- a `}` closes a sequence
abbrev pub top_closes : List Opened → Bool
top_closes stack = closes_in (top_reading stack)

-- with an opener at this offset on top
abbrev pub opened_on : Opener → ℕ → List Opened → List Opened
opened_on by at stack = record { by = by; at = at; around = top_reading stack } ∷ stack

-- the innermost quote, heredoc or sequence
abbrev pub innermost_unclosed : List Opened → Option Opened
innermost_unclosed [] = None
innermost_unclosed (o ∷ stack) = if must_be_closed (opener_of o.by) then Some o else innermost_unclosed stack

-- in a template, whether it is in quotes
abbrev pub quoted_in : Context → Option Bool
quoted_in (Template quoted) = Some quoted
quoted_in Expression = None

-- tokens of this kind change the open constructs: a group, a quote or a heredoc
abbrev pub opens_or_closes : Kind → Bool
opens_or_closes k = is_opener k || is_closer k || is QuoteOpen k || is QuoteClose k || is HeredocOpen k || is HeredocClose k

-- the opener that a token of this kind is, heredocs aside
abbrev pub opened_by : Kind → Option Opener
opened_by QuoteOpen = Some Quote
opened_by InterpOpen = Some Sequence
opened_by ControlOpen = Some Sequence
opened_by ParenOpen = Some Paren
opened_by BracketOpen = Some Bracket
opened_by BraceOpen = Some Brace
opened_by _ = None

abbrev pub option_and : Option Bool → Opened → Option Opened
option_and None o = None
option_and (Some quoted) o = Some o

-- the innermost opener, if it begins a template
abbrev pub template_top : List Opened → Option Opened
template_top [] = None
template_top (o ∷ stack) = option_and (quoted_in (context_in (opener_of o.by))) o
