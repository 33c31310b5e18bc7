-- THE MESSAGES of an editor (JSON-RPC 2.0, and the Language Server Protocol 3.17), as far as the server treats them: a
-- message is told by its members. If a member comes twice, the last one counts.
use Rattle.std.specs.Prelude.{ℕ, ◌==◌, ◌^◌, ◌&&◌, ◌||◌, Bool, false, not, List, codes, length, nat_lt, Option, Some, None, if◌then◌else◌, option_and_then, unwrap_or}
use Rattle.std.specs.List.{list_any}
use Rattle.std.specs.Option.{is_some}
use Rattle.std.specs.Str.{all_ascii_digits, bytes_eq}
use Rattle.std.specs.Str.Parse.{digits_value, without_leading_plus}
use Rattle.json.specs.Find.{as_array, as_bool, as_number, as_str, get, later_or}
use Rattle.json.specs.Json as json
use Rattle.json.specs.Json.{Items, Json, item, no_items}
use Rattle.text_places.specs.declared.place.Place.{Place}
use Rattle.text_places.specs.declared.place.Units.{Units}
use Rattle.text_places.specs.declared.place.Units.TheVariants.{Bytes, Utf16}
use Rattle.editor_messages.specs.declared.message.Abilities.{Abilities}

-- a place in the document that has this URI
pub record DocumentPlace : Type 0 where
  pub uri : List ℕ
  pub place : Place

pub data Request : Type 0 where
  -- the editor begins, and this is what it can do
  Initialize : Abilities → Request
  Shutdown : Request
  -- the format of the document that has this URI, if one is named
  Formatting : Option (List ℕ) → Request
  -- the symbols of such a document, and its folds
  Symbols : Option (List ℕ) → Request
  Folds : Option (List ℕ) → Request
  -- where the name at a place is declared, if a place is named
  Definition : Option DocumentPlace → Request
  -- where that name is used, and where it is declared if that is true
  References : Option DocumentPlace → Bool → Request
  -- whether that name can be changed
  PrepareRename : Option DocumentPlace → Request
  -- that name changed to this one, if one is told
  Rename : Option DocumentPlace → Option (List ℕ) → Request
  -- a request that the server doesn't know
  Unknown : Request

pub data Notification : Type 0 where
  -- the document that has this URI has this version, if the message tells one, and this text, or one that the message
  -- doesn't tell
  Text : List ℕ → Option ℕ → Option (List ℕ) → Notification
  -- the document that has this URI is closed
  Close : List ℕ → Notification
  Exit : Notification
  -- what the server passes over
  Other : Notification

pub data Message : Type 0 where
  -- no message: the answer to it is an error, with this id
  Invalid : Json → Message
  -- the answer to a request of the server
  Response : Message
  -- the answer to it has this id
  Asks : Json → Request → Message
  Tells : Notification → Message

-- ---- members

abbrev pub text_at : List ℕ → Json → Option (List ℕ)
text_at name j = option_and_then as_str (get name j)

abbrev pub params_at : List ℕ → Json → Option Json
params_at name j = option_and_then (get name) (get (codes "params") j)

-- a text that is told of the document
abbrev pub document_text : List ℕ → Json → Option (List ℕ)
document_text name j = option_and_then (text_at name) (params_at (codes "textDocument") j)

-- ---- integers

-- the number that digits write, if it is below 2 ^ 64
abbrev pub digits_number : List ℕ → Option ℕ
digits_number digits =
    if all_ascii_digits digits
    && (nat_lt 0 (length digits) && nat_lt (digits_value 10 digits) (2 ^ 64))
    then Some (digits_value 10 digits) else None

-- the number that a text writes by digits alone; JSON has no plus before them
abbrev pub integer_of : List ℕ → Option ℕ
integer_of number = digits_number (without_leading_plus number)

abbrev pub integer_at : List ℕ → Json → Option ℕ
integer_at name j = option_and_then integer_of (option_and_then as_number (get name j))

-- an integer that is told of the document
abbrev pub document_integer : List ℕ → Json → Option ℕ
document_integer name j =
    option_and_then (integer_at name) (params_at (codes "textDocument") j)

-- ---- flags

-- whether there is a value that is true
abbrev pub is_true : Option Json → Bool
is_true value = unwrap_or (option_and_then as_bool value) false

-- ---- places in documents

abbrev pub place_by : Option ℕ → Option ℕ → Option Place
place_by None character = None
place_by (Some line) None = None
place_by (Some line) (Some character) = Some (record { line = line; character = character })

-- a position as a place, if both of its numbers are told
abbrev pub position_place : Json → Option Place
position_place position =
    place_by (integer_at (codes "line") position) (integer_at (codes "character") position)

abbrev pub place_named : Json → Option Place
place_named j = option_and_then position_place (params_at (codes "position") j)

abbrev pub document_place_by : Option (List ℕ) → Option Place → Option DocumentPlace
document_place_by None place = None
document_place_by (Some uri) None = None
document_place_by (Some uri) (Some place) = Some (record { uri = uri; place = place })

-- the place in a document that the parameters name
abbrev pub document_place : Json → Option DocumentPlace
document_place j = document_place_by (document_text (codes "uri") j) (place_named j)

-- ---- ids

-- a byte of a number that begins a fraction or an exponent
abbrev pub is_fractional : ℕ → Bool
is_fractional b = b == 46 || (b == 101 || b == 69)

-- a number with neither
abbrev pub is_integer : List ℕ → Bool
is_integer number = not (list_any is_fractional number)

-- an id is a text or an integer
abbrev pub id_in : Json → Option Json
id_in json.null = None
id_in (json.boolean b) = None
id_in (json.number s) = if is_integer s then Some (json.number s) else None
id_in (json.string s) = Some (json.string s)
id_in (json.array js) = None
id_in (json.object ms) = None

-- the id of a message, or null if it has none
abbrev pub id_or_null : Option Json → Json
id_or_null None = json.null
id_or_null (Some id) = id

-- ---- requests

abbrev pub is_text : List ℕ → Option (List ℕ) → Bool
is_text text None = false
is_text text (Some s) = bytes_eq s text

abbrev pub has_text : List ℕ → Items → Bool
has_text text no_items = false
has_text text (item j js) = is_text text (as_str j) || has_text text js

abbrev pub offers : List ℕ → Option Items → Bool
offers text None = false
offers text (Some js) = has_text text js

-- the units in which the editor offers to count
abbrev pub encodings : Json → Option Json
encodings j =
    option_and_then (get (codes "positionEncodings"))
    (option_and_then (get (codes "general")) (params_at (codes "capabilities") j))

-- bytes of UTF-8 if the editor offers them, otherwise UTF-16
abbrev pub units_offered : Json → Units
units_offered j = if offers (codes "utf-8") (option_and_then as_array (encodings j)) then Bytes else Utf16

-- a member of a group of what the editor can do
abbrev pub ability_at : List ℕ → List ℕ → List ℕ → Json → Option Json
ability_at part group name j =
    option_and_then (get name)
    (option_and_then (get group)
    (option_and_then (get part) (params_at (codes "capabilities") j)))

-- what the editor can do: it takes edits for a version of a document, and asks before it asks for a new name
abbrev pub abilities_told : Json → Abilities
abilities_told j = record {
  units = units_offered j;
  takes_versions = is_true
      (ability_at (codes "workspace") (codes "workspaceEdit") (codes "documentChanges") j);
  prepares_renames = is_true
      (ability_at (codes "textDocument") (codes "rename") (codes "prepareSupport") j);
}

-- whether places where a name is declared are asked for too
abbrev pub with_declarations : Json → Bool
with_declarations j =
    is_true (option_and_then (get (codes "includeDeclaration")) (params_at (codes "context") j))

abbrev pub new_name : Json → Option (List ℕ)
new_name j = option_and_then as_str (params_at (codes "newName") j)

-- a request about a name
abbrev pub name_request : List ℕ → Json → Request
name_request name j =
    if bytes_eq name (codes "textDocument/definition") then Definition (document_place j)
    else if bytes_eq name (codes "textDocument/references")
    then References (document_place j) (with_declarations j)
    else if bytes_eq name (codes "textDocument/prepareRename")
    then PrepareRename (document_place j)
    else if bytes_eq name (codes "textDocument/rename")
    then Rename (document_place j) (new_name j) else Unknown

abbrev pub request_named : List ℕ → Json → Request
request_named name j =
    if bytes_eq name (codes "initialize") then Initialize (abilities_told j)
    else if bytes_eq name (codes "shutdown") then Shutdown
    else if bytes_eq name (codes "textDocument/formatting")
    then Formatting (document_text (codes "uri") j)
    else if bytes_eq name (codes "textDocument/documentSymbol")
    then Symbols (document_text (codes "uri") j)
    else if bytes_eq name (codes "textDocument/foldingRange")
    then Folds (document_text (codes "uri") j) else name_request name j

-- ---- notifications

abbrev pub last_item : Items → Option Json
last_item no_items = None
last_item (item j js) = later_or (last_item js) (Some j)

-- the whole text to which a change leads: one of a range tells a part alone
abbrev pub whole_text : Json → Option (List ℕ)
whole_text change = if is_some (get (codes "range") change) then None else text_at (codes "text") change

-- changes are made in turn, and the last leads to the text
abbrev pub changed_text : Json → Option (List ℕ)
changed_text j =
    option_and_then whole_text (option_and_then last_item
    (option_and_then as_array (params_at (codes "contentChanges") j)))

abbrev pub text_notification : Option (List ℕ) → Option ℕ → Option (List ℕ) → Notification
text_notification None version text = Other
text_notification (Some uri) version text = Text uri version text

abbrev pub close_notification : Option (List ℕ) → Notification
close_notification None = Other
close_notification (Some uri) = Close uri

abbrev pub notification_named : List ℕ → Json → Notification
notification_named name j =
    if bytes_eq name (codes "exit") then Exit
    else if bytes_eq name (codes "textDocument/didOpen")
    then text_notification (document_text (codes "uri") j)
    (document_integer (codes "version") j) (document_text (codes "text") j)
    else if bytes_eq name (codes "textDocument/didChange")
    then text_notification (document_text (codes "uri") j)
    (document_integer (codes "version") j) (changed_text j)
    else if bytes_eq name (codes "textDocument/didClose")
    then close_notification (document_text (codes "uri") j) else Other

-- ---- messages

-- a message that names nothing
abbrev pub nameless : Json → Message
nameless j =
    if is_some (get (codes "result") j) || is_some (get (codes "error") j) then Response
    else Invalid (id_or_null (option_and_then id_in (get (codes "id") j)))

-- a request with an id, if that is one
abbrev pub request_by : List ℕ → Json → Option Json → Message
request_by name j None = Invalid json.null
request_by name j (Some id) = Asks id (request_named name j)

-- a message of this name, by the member that is its id
abbrev pub named_message : List ℕ → Json → Option Json → Message
named_message name j None = Tells (notification_named name j)
named_message name j (Some id) = request_by name j (id_in id)

abbrev pub message_by : Json → Option (List ℕ) → Message
message_by j None = nameless j
message_by j (Some name) = named_message name j (get (codes "id") j)

-- THE MESSAGE of a value
abbrev pub message_of : Json → Message
message_of j = message_by j (text_at (codes "method") j)
