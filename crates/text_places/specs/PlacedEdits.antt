-- Edits by places, as an editor is told them (Language Server Protocol 3.17, "TextEdit[]"): all places are those of the old
-- text.
use Rattle.std.specs.Prelude.{ℕ, List, map}
use Rattle.text_places.specs.declared.place.Units.{Units}
use Rattle.text_places.specs.declared.place.Place.{Place}
use Rattle.text_places.specs.Places.{offset_at, place_at}
use Rattle.text_places.specs.declared.ranges.Range.{Range}
use Rattle.text_places.specs.Edits.{Edit, edited_text}

pub record PlacedEdit : Type 0 where
  pub start : Place
  pub end : Place
  pub text : List ℕ

abbrev pub in_range : Range → List ℕ → PlacedEdit
in_range range text = record { start = range.start; end = range.end; text = text }

abbrev pub placed_edit : Units → List ℕ → Edit → PlacedEdit
placed_edit units old e = record {
  start = place_at units old e.from;
  end = place_at units old e.to;
  text = e.text;
}

-- THE PLACES of edits of an old text
abbrev pub placed_edits : Units → List ℕ → List Edit → List PlacedEdit
placed_edits units old es = map (placed_edit units old) es

-- an edit by offsets, as an editor reads one by places
abbrev pub offset_edit : Units → List ℕ → PlacedEdit → Edit
offset_edit units old p = record {
  from = offset_at units old p.start;
  to = offset_at units old p.end;
  text = p.text;
}

-- THE TEXT that an editor makes of an old one by edits by places
abbrev pub made_text : Units → List ℕ → List PlacedEdit → List ℕ
made_text units old ps = edited_text (map (offset_edit units old) ps) old
