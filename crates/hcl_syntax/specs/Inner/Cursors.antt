-- The position of a cursor in the lookaheads of a token list.
use Rattle.std.specs.Prelude.{◌≡◌, Bool, true, false, List, [], ◌∷◌, Option, Some, None, if◌then◌else◌}
use Rattle.hcl_grammar.specs.declared.class.Class.{Class}
use Rattle.hcl_grammar.specs.declared.class.Lookahead.{Lookahead}
use Rattle.hcl_grammar.specs.declared.expected.Newlines.{Newlines}
use Rattle.hcl_grammar.specs.Classes.{drops, is_trivia}

-- without the newlines at the front, if they are dropped
abbrev pub past_newlines : Newlines → List Lookahead → List Lookahead
past_newlines m [] = []
past_newlines m (t ∷ ts) = if drops m t.class then past_newlines m ts else t ∷ ts

abbrev pub first : List Lookahead → Option Lookahead
first [] = None
first (t ∷ ts) = Some t

abbrev pub after_first : List Lookahead → List Lookahead
after_first [] = []
after_first (t ∷ ts) = ts

-- whether a token of the class is shown, and isn't a dropped newline
abbrev pub is_shown : Newlines → Class → Bool
is_shown m c = if is_trivia c then false else (if drops m c then false else true)

-- the first token after the dropped newlines, and the rest
pub record Looks (m : Newlines) (old : List Lookahead) (t : Lookahead) (ts : List Lookahead) : Type 0 where
  pub is : past_newlines m old ≡ t ∷ ts
  pub kept : drops m t.class ≡ false
