-- Segments of items by token numbers, as the code finds them.
use Rattle.std.specs.Prelude.{◌≡◌, ◌<◌, ◌≤◌, ℕ, ◌+◌, ◌-◌, ◌&&◌, ◌||◌, Bool, true, Some, slice_get, List, [], ◌∷◌, drop, take, length, get_or, reverse, not, if◌then◌else◌}
use Rattle.hcl_tokens.specs.Kinds.{is}
use Rattle.hcl_tokens.specs.declared.token.Kind.TheVariants as kind
use Rattle.hcl_tokens.specs.Lexemes.{Lexeme}
use Rattle.hcl_tokens.specs.declared.token.Kind.{Kind}
use Rattle.hcl_tokens.specs.Balanced.{is_closer, is_opener}
use Rattle.hcl_grammar.specs.Numbered.{Numbered, numbered_from, without_comments}
use Rattle.hcl_grammar.specs.Items.{deepen, is_closed, items}
use Rattle.hcl_grammar.specs.declared.item.Item.{Item}
use Rattle.hcl_syntax.specs.declared.words.NumberedKind.{NumberedKind}

-- the tokens from a number on to before another
abbrev pub tokens_between : List Lexeme → ℕ → ℕ → List Numbered
tokens_between tokens from to = take (to - from) (numbered_from from (drop from tokens))

-- those tokens without comments
abbrev pub words : List Lexeme → ℕ → ℕ → List Numbered
words tokens from to = without_comments (tokens_between tokens from to)

-- the token is the first of them
pub record IsFirst (tokens : List Lexeme) (from to : ℕ) (word : NumberedKind) : Type 0 where
  pub text : List ℕ
  pub first : words tokens from to ≡ record { number = word.number; kind = word.kind; text = text } ∷ words tokens (word.number + 1) to
  pub from_on : from ≤ word.number
  pub within : word.number < to

-- tokens of the kind make no difference to the search for newlines
abbrev pub is_passed : Kind → Bool
is_passed k = not (is kind.Newline k || is_opener k || is_closer k)

-- the number of tokens before the first newline outside all openers, with this many open
abbrev pub first_len : ℕ → List Lexeme → ℕ
first_len depth [] = 0
first_len depth (t ∷ ts) =
    let rest = first_len (deepen depth t.kind) ts in
    if is kind.Newline t.kind && is_closed depth then 0 else rest + 1

-- the number of the first newline, from a number on, outside all openers, with this many open; or the number of tokens
abbrev pub newline_from : List Lexeme → ℕ → ℕ → ℕ
newline_from tokens depth n = n + first_len depth (drop n tokens)

-- a segment can begin after a token of this kind
abbrev pub leads : Kind → Bool
leads k = is kind.Newline k || is kind.BraceOpen k

-- a segment can begin at the token of this number: it is the first, or one that leads is before it
abbrev pub CanBegin : List Lexeme → ℕ → Type 0
CanBegin tokens i = (n : ℕ) (t : Lexeme) → i ≡ n + 1 → slice_get tokens n ≡ Some t → leads t.kind ≡ true

-- the table has this number for each token at which a segment can begin, and for the end
pub record AreEnds (tokens : List Lexeme) (ends : List ℕ) : Type 0 where
  pub len : length ends ≡ length tokens + 1
  pub each : (i : ℕ) → i ≤ length tokens → CanBegin tokens i → get_or ends i 0 ≡ newline_from tokens 0 i

-- the items at a level of tokens without comments
abbrev pub items_at : ℕ → List Numbered → List Item
items_at level ts = items (length ts) level ts

-- the stack: last is the first newline outside all openers, before it the first one with one opener open, and so on; if
-- there is no more, there is no newline
abbrev pub AreNewlinesAhead : List Lexeme → List ℕ → ℕ → Type 0
AreNewlinesAhead tokens ahead n = (depth : ℕ) → get_or (reverse ahead) depth (length tokens) ≡ newline_from tokens depth n
