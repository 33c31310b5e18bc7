-- THE NAMES of a text as an editor asks for them: the name at a place, and where a file spells a name.
use Rattle.std.specs.Prelude.{◌≡◌, ◌⊎◌, ℕ, ◌&&◌, Bool, true, false, List, Option, None, filter, find, map, nat_le, option_map}
use Rattle.std.specs.List.{list_any}
use Rattle.hcl_tokens.specs.Scanned.{Scanned}
use Rattle.text_places.specs.declared.ranges.Range.{Range}
use Rattle.text_outline.specs.Files.{IsFile, IsRefused}
use Rattle.text_places.specs.Places.{offset_at, place_at}
use Rattle.text_places.specs.declared.place.Place.{Place}
use Rattle.text_places.specs.declared.place.Units.{Units}
use Rattle.tf_names.specs.Names.{Name, Occurrence, is_same, occurrences}
use Rattle.tf_names.specs.declared.occurrence.OccurrenceKind.{OccurrenceKind}
use Rattle.tf_names.specs.declared.occurrence.OccurrenceKind.TheVariants.{Declaration, Reference}
use Rattle.editor_names.specs.declared.query.Wanted.{Wanted}
use Rattle.editor_names.specs.declared.query.Wanted.TheVariants as wanted

-- the range in which the last part of an occurrence's name is spelled
abbrev pub range_of : Units → List ℕ → Occurrence → Range
range_of units text o =
    record { start = place_at units text o.start; end = place_at units text o.end }

-- ---- the name at a place

-- a name, and the range in which its last part is spelled
pub record NamedRange : Type 0 where
  pub name : Name
  pub range : Range

abbrev pub named_range : Units → List ℕ → Occurrence → NamedRange
named_range units text o = record { name = o.name; range = range_of units text o }

-- an offset is in what declares or refers, or at its end
abbrev pub is_at : ℕ → Occurrence → Bool
is_at offset o = nat_le o.front offset && nat_le offset o.end

-- the name at a place of a file
abbrev pub name_in : Units → Place → Scanned → Option NamedRange
name_in units place s =
    option_map (named_range units s.text)
    (find (is_at (offset_at units s.text place)) (occurrences s))

-- THE NAME at a place of a text: none if the text is refused
abbrev pub HasNameAt : Units → Place → List ℕ → Option NamedRange → Type 0
HasNameAt units place text found =
    ((s : Scanned) × IsFile text s × (found ≡ name_in units place s))
    ⊎ (IsRefused text × (found ≡ None))

-- ---- where one file spells a name

-- a name, which of its occurrences are asked for, and in which units their places are counted
pub record Query : Type 0 where
  pub name : Name
  pub wanted : Wanted
  pub units : Units

abbrev pub is_wanted_kind : Wanted → OccurrenceKind → Bool
is_wanted_kind wanted.Declarations Declaration = true
is_wanted_kind wanted.Declarations Reference = false
is_wanted_kind wanted.References Declaration = false
is_wanted_kind wanted.References Reference = true
is_wanted_kind wanted.All kind = true

abbrev pub is_wanted : Query → Occurrence → Bool
is_wanted q o = is_same q.name o.name && is_wanted_kind q.wanted o.kind

abbrev pub declarations_of : Query → Query
declarations_of q = record q { wanted = wanted.Declarations }

-- a file declares it
abbrev pub declares : Query → Scanned → Bool
declares q s = list_any (is_wanted (declarations_of q)) (occurrences s)

-- the ranges in which a file spells it
abbrev pub ranges_in : Query → Scanned → List Range
ranges_in q s = map (range_of q.units s.text) (filter (is_wanted q) (occurrences s))
