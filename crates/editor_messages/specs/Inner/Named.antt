-- Parts of the answers about a name.
use Rattle.std.specs.Prelude.{ℕ, List, ◌∷◌, flat_map, map}
use Rattle.json.specs.Token.{Token, key}
use Rattle.json.specs.Tree.{json_tokens}
use Rattle.text_places.specs.PlacedEdits.{in_range}
use Rattle.text_places.specs.declared.ranges.Range.{Range}
use Rattle.editor_messages.specs.Inner.Heads.{edits_tokens}
use Rattle.editor_messages.specs.Names.{DocumentRanges, range_location, renaming_edits, versioned_edits}

abbrev pub ranges_tokens : List ℕ → List Range → List Token
ranges_tokens uri ranges = flat_map json_tokens (map (range_location uri) ranges)

abbrev pub locations_tokens : List DocumentRanges → List Token
locations_tokens ds = flat_map (λ d. ranges_tokens d.uri d.ranges) ds

abbrev pub renaming_tokens : List ℕ → List Range → List Token
renaming_tokens name ranges = edits_tokens (map (λ range. in_range range name) ranges)

abbrev pub versioned_tokens : List ℕ → List DocumentRanges → List Token
versioned_tokens name ds = flat_map (λ d. json_tokens (versioned_edits name d)) ds

-- the edits of a document after its URI
abbrev pub change_tokens : List ℕ → DocumentRanges → List Token
change_tokens name d = key d.uri ∷ json_tokens (renaming_edits name d.ranges)

abbrev pub changes_tokens : List ℕ → List DocumentRanges → List Token
changes_tokens name ds = flat_map (change_tokens name) ds
