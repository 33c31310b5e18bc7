-- AN INDEX of the places of one text.
use Rattle.std.specs.Prelude.{ℕ, List}
use Rattle.text_places.specs.declared.place.Units.{Units}

-- a text, and the units in which its characters are counted
pub record IndexedText : Type 0 where
  pub units : Units
  pub text : List ℕ
