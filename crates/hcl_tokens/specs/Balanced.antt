-- Openers and closers in token lists, and the law that a layout may rely on when it indents by them. An opener is `(`,
-- `[`, `{`, `${` or `%{`, and a closer its counterpart (HCL Native Syntax Specification, "Operators and Delimiters" and
-- "Templates"); quotes and heredocs don't count. The bound `max_open` is the scan's, and our own choice.
use Rattle.std.specs.Prelude.{◌≡◌, ◌≤◌, ◌+◌, ℕ, Bool, true, false, List, [], ◌∷◌, ◌++◌, if◌then◌else◌}
use Rattle.hcl_tokens.specs.Lexemes.{Lexeme}
pub use Rattle.hcl_tokens.specs.Lexemes.{max_open}
use Rattle.hcl_tokens.specs.declared.token.Kind.{Kind}
use Rattle.hcl_tokens.specs.declared.token.Nesting.{Nesting}
use Rattle.hcl_tokens.specs.declared.token.Nesting.TheVariants.{Opens, Closes, Neither}
use Rattle.hcl_tokens.specs.declared.token.Kind.TheVariants.{ParenOpen, BracketOpen, BraceOpen, InterpOpen, ControlOpen, ParenClose, BracketClose, SeqClose, BraceClose}

-- whether a token of the kind opens a group or closes one
abbrev pub nesting : Kind → Nesting
nesting ParenOpen = Opens
nesting BracketOpen = Opens
nesting BraceOpen = Opens
nesting InterpOpen = Opens
nesting ControlOpen = Opens
nesting ParenClose = Closes
nesting BracketClose = Closes
nesting BraceClose = Closes
nesting SeqClose = Closes
nesting _ = Neither

abbrev pub is_opens : Nesting → Bool
is_opens Opens = true
is_opens _ = false

abbrev pub is_closes : Nesting → Bool
is_closes Closes = true
is_closes _ = false

abbrev pub is_opener : Kind → Bool
is_opener k = is_opens (nesting k)

abbrev pub is_closer : Kind → Bool
is_closer k = is_closes (nesting k)

-- 1 for an opener, 0 for any other kind
abbrev pub opener_count : Kind → ℕ
opener_count k = if is_opener k then 1 else 0

abbrev pub closer_count : Kind → ℕ
closer_count k = if is_closer k then 1 else 0

-- how many openers are in the list
abbrev pub openers : List Lexeme → ℕ
openers [] = 0
openers (t ∷ ts) = opener_count t.kind + openers ts

-- how many closers are in the list
abbrev pub closers : List Lexeme → ℕ
closers [] = 0
closers (t ∷ ts) = closer_count t.kind + closers ts

-- no more closers than openers, and at most `max_open` more openers than closers
pub record IsWithin (tokens : List Lexeme) : Type 0 where
  pub opened_first : closers tokens ≤ openers tokens
  pub few_open : openers tokens ≤ closers tokens + max_open

-- THE LAW: both bounds hold for each front of the list
abbrev pub IsBalanced : List Lexeme → Type 0
IsBalanced tokens = (front back : List Lexeme) → front ++ back ≡ tokens → IsWithin front
