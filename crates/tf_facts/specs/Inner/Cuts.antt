-- The parts of a text, cut off one by one.
use Rattle.std.specs.Prelude.{◌==◌, ℕ, List, [], ◌∷◌, Option, Some, None}
use Rattle.std.specs.List.{slice_split}
use Rattle.tf_facts.specs.declared.cut.Cut.{Cut}

abbrev pub after_cut : {B : Type 0} → (B → List ℕ) → ℕ → Option B → List (List ℕ)
after_cut read byte None = []
after_cut read byte (Some rest) = slice_split (λ b. b == byte) (read rest)

-- the part that was cut off, and the parts of the rest
abbrev pub parts_of : ℕ → Cut → List (List ℕ)
parts_of byte c = c.part.now ∷ after_cut (λ r. r.now) byte c.rest
