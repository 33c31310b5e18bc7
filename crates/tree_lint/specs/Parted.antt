-- The reports of several modules, one after another, with an empty line between two. Our own choice.
use Rattle.std.specs.Prelude.{ℕ, Bool, true, false, List, [], ◌∷◌}

-- a text after others, with an empty line before it, unless it is empty itself
abbrev pub after_empty_line : Bool → List ℕ → List ℕ
after_empty_line false text = text
after_empty_line true [] = []
after_empty_line true (b ∷ bs) = 10 ∷ b ∷ bs
