-- THE ANSWERS about a name as an editor is told them (Language Server Protocol 3.17, "Goto Definition Request", "Find References
-- Request", "Prepare Rename Request" and "Rename Request").
use Rattle.std.specs.Prelude.{ℕ, Bool, false, true, List, [], ◌∷◌, ◌++◌, Option, Some, None, codes, decimal, map}
use Rattle.json.specs.Json.{Json, Members, array, member, no_members, null, number, object, string}
use Rattle.lint_forms.specs.JsonValues.{json_items}
use Rattle.text_places.specs.PlacedEdits.{in_range}
use Rattle.text_places.specs.declared.ranges.Range.{Range}
use Rattle.editor_messages.specs.Replies.{edits_json, range_json}

-- ranges of the document that has this URI, and its version if one is known
pub record DocumentRanges : Type 0 where
  pub uri : List ℕ
  pub version : Option ℕ
  pub ranges : List Range

-- ---- places

abbrev pub range_location : List ℕ → Range → Json
range_location uri range =
    object (member (codes "uri") (string uri)
    (member (codes "range") (range_json range.start range.end) no_members))

-- each range of each document, in order
abbrev pub locations_in : List DocumentRanges → List Json
locations_in [] = []
locations_in (d ∷ ds) = map (range_location d.uri) d.ranges ++ locations_in ds

-- THE PLACES of a name
abbrev pub locations_json : List DocumentRanges → Json
locations_json ds = array (json_items (locations_in ds))

-- ---- a new name

-- a name in place of what is in these ranges
abbrev pub renaming_edits : List ℕ → List Range → Json
renaming_edits name ranges = edits_json (map (λ range. in_range range name) ranges)

abbrev pub version_json : Option ℕ → Json
version_json None = null
version_json (Some version) = number (decimal version)

-- the edits of a document of this version
abbrev pub versioned_edits : List ℕ → DocumentRanges → Json
versioned_edits name d =
    object (member (codes "textDocument") (object
    (member (codes "uri") (string d.uri)
    (member (codes "version") (version_json d.version) no_members)))
    (member (codes "edits") (renaming_edits name d.ranges) no_members))

-- the edits of each document by its URI
abbrev pub edits_by_uri : List ℕ → List DocumentRanges → Members
edits_by_uri name [] = no_members
edits_by_uri name (d ∷ ds) = member d.uri (renaming_edits name d.ranges) (edits_by_uri name ds)

-- THE EDITS by which a name is changed to a new one, with versions if the editor takes them
abbrev pub rename_json : Bool → List ℕ → List DocumentRanges → Json
rename_json true name ds =
    object (member (codes "documentChanges") (array (json_items (map (versioned_edits name) ds)))
    no_members)
rename_json false name ds =
    object (member (codes "changes") (object (edits_by_uri name ds)) no_members)

-- A NAME that can be changed: its range, and what the editor shows in it
abbrev pub prepared_json : Range → List ℕ → Json
prepared_json range placeholder =
    object (member (codes "range") (range_json range.start range.end)
    (member (codes "placeholder") (string placeholder) no_members))
