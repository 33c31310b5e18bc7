-- THE REPLIES to an editor (JSON-RPC 2.0, section 5; Language Server Protocol 3.17).
use Rattle.std.specs.Prelude.{ℕ, Bool, false, true, List, Result, Ok, Err, codes, decimal, map}
use Rattle.json.specs.Json.{Json, array, boolean, member, no_members, number, object, string}
use Rattle.lint_forms.specs.JsonValues.{json_items}
use Rattle.text_places.specs.PlacedEdits.{PlacedEdit}
use Rattle.text_places.specs.declared.place.Place.{Place}
use Rattle.text_places.specs.declared.place.Units.{Units}
use Rattle.text_places.specs.declared.place.Units.TheVariants.{Bytes, Utf16}
use Rattle.editor_messages.specs.Errors.{error_code, error_text}
use Rattle.editor_messages.specs.declared.error.ReplyError.{ReplyError}
use Rattle.editor_messages.specs.declared.message.Abilities.{Abilities}

-- ---- results

abbrev pub encoding_name : Units → List ℕ
encoding_name Bytes = codes "utf-8"
encoding_name Utf16 = codes "utf-16"

-- documents are told when they are opened and closed, and by their whole text when they change
abbrev pub sync_json : Json
sync_json = object (member (codes "openClose") (boolean Bool.true) (member (codes "change") (number (decimal 1)) no_members))

-- names can be changed, and asked about before if the editor does that
abbrev pub rename_ability : Bool → Json
rename_ability false = boolean Bool.true
rename_ability true = object (member (codes "prepareProvider") (boolean Bool.true) no_members)

abbrev pub capabilities_by : List ℕ → List ℕ → Bool → Json
capabilities_by version encoding prepares =
    object (member (codes "capabilities") (object
    (member (codes "positionEncoding") (string encoding)
    (member (codes "textDocumentSync") sync_json
    (member (codes "documentFormattingProvider") (boolean Bool.true)
    (member (codes "documentSymbolProvider") (boolean Bool.true)
    (member (codes "foldingRangeProvider") (boolean Bool.true)
    (member (codes "definitionProvider") (boolean Bool.true)
    (member (codes "referencesProvider") (boolean Bool.true)
    (member (codes "renameProvider") (rename_ability prepares) no_members)))))))))
    (member (codes "serverInfo") (object
    (member (codes "name") (string (codes "tfls"))
    (member (codes "version") (string version) no_members))) no_members))

-- THE ABILITIES of this version of the server, for an editor that can do this
abbrev pub capabilities_json : List ℕ → Abilities → Json
capabilities_json version abilities =
    capabilities_by version (encoding_name abilities.units) abilities.prepares_renames

abbrev pub place_json : Place → Json
place_json place =
    object (member (codes "line") (number (decimal place.line))
    (member (codes "character") (number (decimal place.character)) no_members))

-- a range, by its first place and the place after it
abbrev pub range_json : Place → Place → Json
range_json start end =
    object (member (codes "start") (place_json start) (member (codes "end") (place_json end) no_members))

-- AN EDIT
abbrev pub edit_json : PlacedEdit → Json
edit_json edit =
    object (member (codes "range") (range_json edit.start edit.end)
    (member (codes "newText") (string edit.text) no_members))

abbrev pub edits_json : List PlacedEdit → Json
edits_json edits = array (json_items (map edit_json edits))

-- ---- replies

-- a reply with this id, which is a result or an error
abbrev pub reply_with : Json → List ℕ → Json → Json
reply_with id name value =
    object (member (codes "jsonrpc") (string (codes "2.0")) (member (codes "id") id (member name value no_members)))

abbrev pub result_json : Json → Json → Json
result_json id result = reply_with id (codes "result") result

abbrev pub error_by : List ℕ → List ℕ → Json
error_by code text =
    object (member (codes "code") (number code) (member (codes "message") (string text) no_members))

abbrev pub error_value : ReplyError → Json
error_value error = error_by (error_code error) (error_text error)

abbrev pub error_json : Json → ReplyError → Json
error_json id error = reply_with id (codes "error") (error_value error)

-- THE REPLY to a request
abbrev pub reply_json : Json → Result Json ReplyError → Json
reply_json id (Ok result) = result_json id result
reply_json id (Err error) = error_json id error
