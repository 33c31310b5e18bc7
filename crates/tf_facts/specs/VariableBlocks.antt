-- The blocks of variables, as the code stores them.
use Rattle.std.specs.Prelude.{◌≤◌, ℕ, max, List, [], ◌∷◌}
use Rattle.tf_facts.specs.References.{VariableSpan}

-- the blocks follow one another, and the first begins at `from` or later
abbrev pub AreDisjoint : ℕ → List VariableSpan → Type 0
AreDisjoint from [] = Unit {0}
AreDisjoint from (o ∷ own) = (from ≤ o.first) × AreDisjoint (max o.first o.end) own
