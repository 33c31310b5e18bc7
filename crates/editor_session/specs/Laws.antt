-- What the edits that answer an editor make.
use Rattle.std.specs.Prelude.{◌≡◌, ◌⊎◌, ℕ, List, [], Result, Ok}
use Rattle.hcl_source.specs.declared.fault.Fault.{Fault}
use Rattle.json.specs.Json.{Json}
use Rattle.text_places.specs.PlacedEdits.{PlacedEdit, made_text}
use Rattle.text_format.specs.Format.{IsFault, IsFormat}
use Rattle.text_places.specs.declared.place.Units.{Units}
use Rattle.editor_messages.specs.Replies.{edits_json}
use Rattle.editor_messages.specs.declared.error.ReplyError.{ReplyError}

-- the answer is these edits, by which an editor makes the text its format, or none if it is that already
pub record AreMaking
    (units : Units) (text : List ℕ) (given : Result Json ReplyError)
    (formatted : List ℕ) (edits : List PlacedEdit) : Type 0 where
  pub format : IsFormat text formatted
  pub answer : given ≡ Ok (edits_json edits)
  pub made : made_text units text edits ≡ formatted
  pub none : formatted ≡ text → edits ≡ []

-- the answer makes the text its format, or the text has none and the answer is no edits
abbrev pub MakesFormat : Units → List ℕ → Result Json ReplyError → Type 0
MakesFormat units text answer =
    ((formatted : List ℕ) × (edits : List PlacedEdit)
    × AreMaking units text answer formatted edits)
    ⊎ ((fault : Fault) × IsFault text fault × (answer ≡ Ok (edits_json [])))
