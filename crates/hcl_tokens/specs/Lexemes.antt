-- Tokens, and what they open and close. The innermost opener decides how the text is read: quotes and heredocs contain
-- literal text, all other openers an expression (HCL Native Syntax Specification, "Lexical Elements" and "Templates").
-- The bound on open openers is our own choice.
use Rattle.std.specs.Prelude.{ℕ, ◌==◌, ◌||◌, Bool, true, false, List, [], ◌∷◌, drop, if◌then◌else◌, nat_eq, codes}
use Rattle.std.specs.List.{starts_with, before_first, list_any}
use Rattle.hcl_tokens.specs.declared.token.Kind.{Kind}
use Rattle.hcl_tokens.specs.declared.token.Kind.TheVariants.{HeredocOpen, QuoteOpen, ParenOpen, BracketOpen, BraceOpen, ParenClose, BracketClose, SeqClose, BraceClose, InterpOpen, ControlOpen, QuoteClose, HeredocClose}

-- a token, its text as bytes
pub record Lexeme : Type 0 where
  pub kind : Kind
  pub text : List ℕ
  pub start : ℕ
  pub inside_heredoc : Bool

-- what a token can leave open
pub data Opener : Type 0 where
  Quote : Opener
  Heredoc : Opener
  Sequence : Opener
  Brace : Opener
  Bracket : Opener
  Paren : Opener

abbrev pub is_newline_byte : ℕ → Bool
is_newline_byte b = (b == 10) || (b == 13)

-- the marker in the text of a heredoc's opener: the part after `<<` or `<<-`, up to the newline
abbrev pub marker_of : List ℕ → List ℕ
marker_of text =
    before_first is_newline_byte (if starts_with nat_eq text (codes "<<-") then drop 3 text
    else drop 2 text)

abbrev pub same_opener : Opener → Opener → Bool
same_opener Quote Quote = true
same_opener Heredoc Heredoc = true
same_opener Sequence Sequence = true
same_opener Brace Brace = true
same_opener Bracket Bracket = true
same_opener Paren Paren = true
same_opener _ _ = false

-- some heredoc is open
abbrev pub in_heredoc : List Opener → Bool
in_heredoc opens = list_any (same_opener Heredoc) opens

abbrev pub is_group : Opener → Bool
is_group o = same_opener Paren o || same_opener Bracket o

-- the openers below the parens and brackets on top
abbrev pub below_groups : List Opener → List Opener
below_groups [] = []
below_groups (o ∷ opens) = if is_group o then below_groups opens else o ∷ opens

abbrev pub tops_with : (Opener → Bool) → List Opener → Bool
tops_with is [] = false
tops_with is (o ∷ opens) = is o

-- a `}` closes a sequence
abbrev pub closes_sequence : List Opener → Bool
closes_sequence opens = tops_with (same_opener Sequence) (below_groups opens)

abbrev pub pop_if : (Opener → Bool) → List Opener → List Opener
pop_if is opens = if tops_with is opens then drop 1 opens else opens

-- the openers that are open after a token of this kind
abbrev pub open_after : Kind → List Opener → List Opener
open_after QuoteOpen opens = Quote ∷ opens
open_after HeredocOpen opens = Heredoc ∷ opens
open_after InterpOpen opens = Sequence ∷ opens
open_after ControlOpen opens = Sequence ∷ opens
open_after ParenOpen opens = Paren ∷ opens
open_after BracketOpen opens = Bracket ∷ opens
open_after BraceOpen opens = Brace ∷ opens
open_after ParenClose opens = pop_if (same_opener Paren) opens
open_after BracketClose opens = pop_if (same_opener Bracket) opens
open_after BraceClose opens = pop_if (same_opener Brace) (below_groups opens)
open_after SeqClose opens = drop 1 (below_groups opens)
open_after QuoteClose opens = drop 1 opens
open_after HeredocClose opens = drop 1 opens
open_after _ opens = opens

-- the openers that are open after a token list
abbrev pub open_after_all : List Opener → List Lexeme → List Opener
open_after_all opens [] = opens
open_after_all opens (t ∷ ts) = open_after_all (open_after t.kind opens) ts

-- how many openers may be open at once
abbrev pub max_open : ℕ
max_open = 256
