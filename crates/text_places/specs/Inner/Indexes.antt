-- The walks from which places are found.
use Rattle.std.specs.Prelude.{◌≡◌, ◌<◌, ◌*◌, ℕ, List, length, get_or}
use Rattle.text_places.specs.Places.{walk_start, walk_to}
use Rattle.text_places.specs.declared.place.Units.{Units}
use Rattle.text_places.specs.declared.place.Walk.{Walk}

-- the walks go up to the multiples of 64
abbrev pub AreWalks : Units → List ℕ → List Walk → Type 0
AreWalks units text walks =
    (k : ℕ) → k < length walks → get_or walks k walk_start ≡ walk_to units text (k * 64)
