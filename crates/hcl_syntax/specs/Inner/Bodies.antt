-- The output for a segment before the items of its body.
use Rattle.std.specs.Prelude.{◌≡◌, ◌<◌, ◌≤◌, ◌+◌, ℕ, List, [], ◌++◌}
use Rattle.hcl_tokens.specs.Lexemes.{Lexeme}
use Rattle.hcl_grammar.specs.Numbered.{Numbered}
use Rattle.hcl_grammar.specs.Items.{after_brace, block, item_of}
use Rattle.hcl_syntax.specs.Inner.Segments.{CanBegin, words}
use Rattle.hcl_syntax.specs.declared.segments.BlockBody.{BlockBody}
use Rattle.hcl_grammar.specs.declared.item.Item.{Item}

-- the number is that of the token after the first opening brace, or the end
pub record IsAfterBrace (tokens : List Lexeme) (from to first : ℕ) : Type 0 where
  pub is : words tokens first to ≡ after_brace (words tokens from to)
  pub from_on : from ≤ first
  pub within : first ≤ to
  pub begins : first < to → CanBegin tokens first

-- with the items of its body after it, it is the item of the segment, whatever the items of bodies are
pub record PushesSegment (tokens : List Lexeme) (level from to : ℕ) (old new : List Item) (body : BlockBody) : Type 0 where
  pub is : (inner : List Numbered → List Item) → inner [] ≡ [] → new ++ inner (words tokens body.first body.end) ≡ old ++ item_of inner level (words tokens from to)
  pub within : body.end ≤ to
  pub deeper : body.first < body.end → from < body.first
  pub begins : body.first < body.end → CanBegin tokens body.first

-- such output for a block, by its kind
pub record PushesBlock (tokens : List Lexeme) (level kind to : ℕ) (old new : List Item) (body : BlockBody) : Type 0 where
  pub is : (inner : List Numbered → List Item) (head : Numbered) → head.number ≡ kind
      → new ++ inner (words tokens body.first body.end) ≡ old ++ block inner level head (words tokens (kind + 1) to)
  pub within : body.end ≤ to
  pub deeper : kind < body.first
  pub begins : body.first < body.end → CanBegin tokens body.first
