-- The labels of a block, as the code stores them.
use Rattle.std.specs.Prelude.{◌≡◌, ◌<◌, List, [], ◌∷◌, length}
use Rattle.tf_names.specs.Inner.Found.{stretch_seen}
use Rattle.tf_names.specs.Names.{Stretch}
use Rattle.tf_names.specs.declared.label.Labels.{Labels}
use Rattle.tf_names.specs.declared.label.Labels.TheVariants as labels

-- these are the labels, or there are more than two
abbrev pub AreLabels : Labels → List Stretch → Type 0
AreLabels labels.None ls = ls ≡ []
AreLabels (labels.One n) ls = ls ≡ stretch_seen n ∷ []
AreLabels (labels.Two t n) ls = ls ≡ stretch_seen t ∷ stretch_seen n ∷ []
AreLabels labels.More ls = 2 < length ls
