-- The labels of a block, as the code stores them.
use Rattle.std.specs.Prelude.{◌≡◌, ◌<◌, ℕ, List, [], ◌∷◌, length}
use Rattle.tf_facts.specs.declared.names.Names.{Names}
use Rattle.tf_facts.specs.declared.names.Names.TheVariants as names

-- these are the labels, or there are more than two
abbrev pub AreNames : Names → List (List ℕ) → Type 0
AreNames names.None labels = labels ≡ []
AreNames (names.One name) labels = labels ≡ name.now ∷ []
AreNames (names.Two first second) labels = labels ≡ first.now ∷ second.now ∷ []
AreNames names.More labels = 2 < length labels
