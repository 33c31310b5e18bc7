-- The code's finds, by their values and as lists.
use Rattle.std.specs.Prelude.{ℕ, List, [], ◌∷◌, Option, Some, None}
use Rattle.tf_names.specs.Names.{NameReference, Occurrence, Stretch}
use Rattle.tf_names.specs.Views.{name_seen, occurrence_seen}
use Rattle.tf_names.specs.declared.occurrence.Occurrence.{Occurrence as OccurrenceOf}
use Rattle.tf_names.specs.declared.reference.LastName.{LastName}
use Rattle.tf_names.specs.declared.stretch.Stretch.{Stretch as StretchOf}

abbrev pub stretch_seen : StretchOf → Stretch
stretch_seen s = record { text = s.text.now; start = s.start; end = s.end }

-- the reference with a word of this number
abbrev pub reference_seen : ℕ → LastName → NameReference
reference_seen word n = record { word = word; token = n.token; name = name_seen n.name }

abbrev pub listed_occurrence : Option OccurrenceOf → List Occurrence
listed_occurrence None = []
listed_occurrence (Some o) = occurrence_seen o ∷ []
