-- Places in a text (Language Server Protocol 3.17, "Position"): lines end with LF, CR LF or CR, and characters are counted
-- in bytes of UTF-8 or in code units of UTF-16. Lines and characters are numbered from 0.
use Rattle.std.specs.Prelude.{ℕ, suc, ◌+◌, ◌==◌, ◌&&◌, ◌||◌, not, Bool, true, false, List, [], ◌∷◌, nat_lt, take, if◌then◌else◌}
use Rattle.text_places.specs.declared.place.Units.{Units}
use Rattle.text_places.specs.declared.place.Units.TheVariants.{Bytes, Utf16}
use Rattle.text_places.specs.declared.place.Place.{Place}
use Rattle.text_places.specs.declared.place.Walk.{Walk}

-- The units of a character, at the byte that begins it: in UTF-16 two if it has four bytes, otherwise one. Its other bytes
-- have none.
abbrev pub units_of : Units → ℕ → ℕ
units_of Bytes b = 1
units_of Utf16 b =
    if nat_lt b 128 then 1 else if nat_lt b 192 then 0 else if nat_lt b 240 then 1 else 2

abbrev pub ends_line : ℕ → Bool
ends_line b = b == 10 || b == 13

-- at the front of a text
abbrev pub walk_start : Walk
walk_start = record { offset = 0; line = 0; character = 0; after_cr = false }

-- after one more byte; the LF of a CR LF ends no line of its own
abbrev pub walk_step : Units → Walk → ℕ → Walk
walk_step units w b =
    if b == 10
    then record {
      offset = w.offset + 1;
      line = (if w.after_cr then w.line else w.line + 1);
      character = 0;
      after_cr = false;
    }
    else if b == 13
    then record { offset = w.offset + 1; line = w.line + 1; character = 0; after_cr = true }
    else record {
      offset = w.offset + 1;
      line = w.line;
      character = w.character + units_of units b;
      after_cr = false;
    }

abbrev pub walk_from : Units → Walk → List ℕ → Walk
walk_from units w [] = w
walk_from units w (b ∷ bs) = walk_from units (walk_step units w b) bs

-- THE WALK through a text up to an offset
abbrev pub walk_to : Units → List ℕ → ℕ → Walk
walk_to units text offset = walk_from units walk_start (take offset text)

abbrev pub place_after : Walk → Place
place_after w = record { line = w.line; character = w.character }

-- THE PLACE of an offset
abbrev pub place_at : Units → List ℕ → ℕ → Place
place_at units text offset = place_after (walk_to units text offset)

-- after this walk the place is in front of the character that this byte begins, or within it
abbrev pub is_there : Units → Walk → ℕ → Place → Bool
is_there units w b place =
    w.line == place.line
    && (if ends_line b then not (w.after_cr && b == 10)
    else nat_lt place.character (w.character + units_of units b))

abbrev pub offset_from_walk : Units → Walk → List ℕ → Place → ℕ
offset_from_walk units w [] place = 0
offset_from_walk units w (b ∷ bs) place =
    if is_there units w b place then 0
    else suc (offset_from_walk units (walk_step units w b) bs place)

-- THE OFFSET of a place, as an editor reads it: within a character of two units of UTF-16 it is the character's front, after
-- a line's last character the line's end, and after the last line the text's end. In bytes each offset of a line has a place.
abbrev pub offset_at : Units → List ℕ → Place → ℕ
offset_at units text place = offset_from_walk units walk_start text place

-- After this walk one of these bytes begins a character, or none is left. Between a CR and its LF none begins. In bytes
-- each byte is taken for a character.
abbrev pub begins_character : Units → Walk → List ℕ → Bool
begins_character units w [] = true
begins_character units w (b ∷ bs) =
    if ends_line b then not (w.after_cr && b == 10) else nat_lt 0 (units_of units b)
