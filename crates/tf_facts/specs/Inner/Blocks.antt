-- The blocks of variables as the code finds them.
use Rattle.std.specs.Prelude.{◌≡◌, ◌≤◌, ◌<◌, ◌++◌, ℕ, List, drop, slice_get, Some}
use Rattle.tf_facts.specs.References.{VariableSpan, is_self_reference}
use Rattle.tf_facts.specs.declared.variable_block.VariableBlock.{VariableBlock}

abbrev pub block_view : VariableBlock → VariableSpan
block_view o = record { name = o.name.now; first = o.first; end = o.end }

-- the old texts, with more after them
pub record Extends (old new : List (List ℕ)) : Type 0 where
  pub more : List (List ℕ)
  pub is : new ≡ old ++ more

-- from this token on, the first `next` blocks make no difference
pub record ArePassed (own : List VariableSpan) (next number : ℕ) : Type 0 where
  pub same : (m : ℕ) (text : List ℕ) → number ≤ m
      → is_self_reference (drop next own) m text ≡ is_self_reference own m text

-- the block ends after the token
abbrev pub IsAhead : List VariableBlock → ℕ → ℕ → Type 0
IsAhead blocks next number = (o : VariableBlock) → slice_get blocks next ≡ Some o → number < o.end
