-- Worked examples of nested symbols, of integers and of a name that is changed, by computation.
use Rattle.std.specs.Prelude.{◌≡◌, ℕ, refl, false, true, List, [], ◌∷◌, Some, None, codes}
use Rattle.std.specs.Fmt.{digits}
use Rattle.json.specs.Json.{array, item, no_items}
use Rattle.json.specs.Print.{escape_byte, print_from}
use Rattle.lint_forms.specs.JsonValues.{json_text}
use Rattle.text_places.specs.declared.ranges.Range.{Range}
use Rattle.text_outline.specs.Symbols.{Symbol}
use Rattle.text_outline.specs.declared.symbol.SymbolKind.TheVariants.{Block}
use Rattle.text_places.specs.declared.place.Place.{Place}
use Rattle.editor_messages.specs.Messages.{integer_of}
use Rattle.editor_messages.specs.Names.{DocumentRanges, locations_json, rename_json}
use Rattle.editor_messages.specs.Outlines.{symbol_json, symbols_json}

abbrev place : Place
place = record { line = 0; character = 0 }

-- a symbol with a name of one byte
abbrev one : ℕ → ℕ → Symbol
one name level = record {
  name = name ∷ [];
  kind = Block;
  level = level;
  range = record { start = place; end = place };
  selection = record { start = place; end = place };
}

-- the children of the first are the second, which has one, and the fourth
nested : symbols_json (one 97 0 ∷ one 98 1 ∷ one 99 2 ∷ one 100 1 ∷ one 101 0 ∷ []) ≡
    array
    (item (symbol_json (one 97 0)
    (item (symbol_json (one 98 1) (item (symbol_json (one 99 2) no_items) no_items))
    (item (symbol_json (one 100 1) no_items) no_items)))
    (item (symbol_json (one 101 0) no_items) no_items))
nested = refl

-- a level that is left out changes nothing
deeper_by_two : symbols_json (one 97 0 ∷ one 98 2 ∷ one 99 1 ∷ []) ≡
    array
    (item (symbol_json (one 97 0)
    (item (symbol_json (one 98 2) no_items) (item (symbol_json (one 99 1) no_items) no_items)))
    no_items)
deeper_by_two = refl

-- the largest integer, and others that are none
largest : integer_of (codes "18446744073709551615") ≡ Some 18446744073709551615
largest = refl

too_large : integer_of (codes "18446744073709551616") ≡ None
too_large = refl

negative : integer_of (codes "-1") ≡ None
negative = refl

fraction : integer_of (codes "1.0") ≡ None
fraction = refl

-- two documents: an editor has told the version of the first
abbrev range : Range
range = record { start = record { line = 4; character = 0 }; end = record { line = 4; character = 3 } }

abbrev with_version : DocumentRanges
with_version = record { uri = codes "file:///a.tf"; version = Some 7; ranges = range ∷ [] }

abbrev without_version : DocumentRanges
without_version = record { uri = codes "file:///b.tf"; version = None; ranges = [] }

abbrev both : List DocumentRanges
both = with_version ∷ without_version ∷ []

places : json_text (locations_json both) ≡ codes "[{\"uri\":\"file:///a.tf\",\"range\":{\"start\":{\"line\":4,\"character\":0},\"end\":{\"line\":4,\"character\":3}}}]"
unfolding digits escape_byte print_from
places = refl

versioned : json_text (rename_json true (codes "new") both) ≡ codes "{\"documentChanges\":[{\"textDocument\":{\"uri\":\"file:///a.tf\",\"version\":7},\"edits\":[{\"range\":{\"start\":{\"line\":4,\"character\":0},\"end\":{\"line\":4,\"character\":3}},\"newText\":\"new\"}]},{\"textDocument\":{\"uri\":\"file:///b.tf\",\"version\":null},\"edits\":[]}]}"
unfolding digits escape_byte print_from
versioned = refl

by_uri : json_text (rename_json false (codes "new") both) ≡ codes "{\"changes\":{\"file:///a.tf\":[{\"range\":{\"start\":{\"line\":4,\"character\":0},\"end\":{\"line\":4,\"character\":3}},\"newText\":\"new\"}],\"file:///b.tf\":[]}}"
unfolding digits escape_byte print_from
by_uri = refl
