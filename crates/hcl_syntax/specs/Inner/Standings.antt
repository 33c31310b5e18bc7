-- The position of a cursor.
use Rattle.std.specs.Prelude.{◌<◌, ◌≤◌, List, OnOk, Result, length}
use Rattle.hcl_grammar.specs.declared.class.Lookahead.{Lookahead}
use Rattle.hcl_grammar.specs.declared.refusal.Refusal.{Refusal}

-- the remaining tokens, and the last refusal
pub record Standing : Type 0 where
  pub left : List Lookahead
  pub refusal : Refusal

-- if that went well, a token or more was read
abbrev pub Consumes : {A E : Type 0} → Result A E → Standing → Standing → Type 0
Consumes result old new = OnOk result (length new.left < length old.left)

-- if that went well, the cursor didn't go back
abbrev pub NeverReturns : {A E : Type 0} → Result A E → Standing → Standing → Type 0
NeverReturns result old new = OnOk result (length new.left ≤ length old.left)
