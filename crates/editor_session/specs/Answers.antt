-- THE ANSWER to a request: its result, or an error.
use Rattle.std.specs.Prelude.{◌≡◌, ℕ, Bool, List, [], Option, Some, None, Result, Ok, Err, codes, if◌then◌else◌}
use Rattle.file_tree.specs.Files.{Files}
use Rattle.json.specs.Json.{Json, null}
use Rattle.text_places.specs.Edits.{Edit, line_edits}
use Rattle.text_places.specs.PlacedEdits.{placed_edits}
use Rattle.open_files.specs.OpenTexts.{OpenText, text_of}
use Rattle.text_format.specs.Format.{HasFormat}
use Rattle.text_outline.specs.Folds.{HasFolds}
use Rattle.text_outline.specs.Symbols.{HasSymbols, Symbol}
use Rattle.text_outline.specs.declared.fold.Fold.{Fold}
use Rattle.text_places.specs.declared.place.Units.{Units}
use Rattle.editor_messages.specs.Messages.{DocumentPlace, Request, Initialize, Shutdown, Formatting, Symbols, Folds, Definition, References, PrepareRename, Rename, Unknown}
use Rattle.editor_messages.specs.Outlines.{folds_json, symbols_json}
use Rattle.editor_messages.specs.Replies.{capabilities_json, edits_json}
use Rattle.editor_messages.specs.declared.error.ReplyError.{ReplyError}
use Rattle.editor_messages.specs.declared.error.ReplyError.TheVariants as error
use Rattle.editor_names.specs.declared.query.Wanted.{Wanted}
use Rattle.editor_names.specs.declared.query.Wanted.TheVariants.{All, Declarations, References as ReferencesAlone}
use Rattle.editor_session.specs.Names.{AreLocations, IsPrepared, IsRename, TextPlace}
use Rattle.editor_session.specs.Sessions.{Session}
use Rattle.editor_session.specs.declared.phase.Phase.{Phase}
use Rattle.editor_session.specs.declared.phase.Phase.TheVariants as phase

-- this version of the server
abbrev pub version : List ℕ
version = codes "0.3.0"

-- the edits that make a text its format: none if it has none
abbrev pub edits_to : List ℕ → Option (List ℕ) → List Edit
edits_to text None = []
edits_to text (Some formatted) = line_edits text formatted

-- ---- what a request is about

abbrev pub known_text : Option (List ℕ) → Result (List ℕ) ReplyError
known_text None = Err error.UnknownText
known_text (Some text) = Ok text

-- the text of the document that is named, or why there is none
abbrev pub named_text : List OpenText → Option (List ℕ) → Result (List ℕ) ReplyError
named_text documents None = Err error.NoDocument
named_text documents (Some uri) = known_text (text_of documents uri)

abbrev pub known_place : DocumentPlace → Option (List ℕ) → Result TextPlace ReplyError
known_place p None = Err error.UnknownText
known_place p (Some text) = Ok (record { uri = p.uri; place = p.place; text = text })

-- the place that is named, with the text of its document, or why there is none
abbrev pub placed_text : List OpenText → Option DocumentPlace → Result TextPlace ReplyError
placed_text documents None = Err error.NoPlace
placed_text documents (Some p) = known_place p (text_of documents p.uri)

-- the answer has this property for what the request is about, or tells why there is nothing
abbrev pub Answered : {X : Type 0} → (X → Result Json ReplyError → Type 0) → Result X ReplyError
    → Result Json ReplyError → Type 0
Answered IsAnswerTo (Ok x) answer = IsAnswerTo x answer
Answered IsAnswerTo (Err e) answer = answer ≡ Err e

-- ---- a text

-- THE EDITS that format a text
abbrev pub IsFormatting : Units → List ℕ → Result Json ReplyError → Type 0
IsFormatting units text answer =
    (format : Option (List ℕ)) × HasFormat text format
    × (answer ≡ Ok (edits_json (placed_edits units text (edits_to text format))))

-- THE SYMBOLS of a text
abbrev pub AreSymbols : Units → List ℕ → Result Json ReplyError → Type 0
AreSymbols units text answer =
    (symbols : List Symbol) × HasSymbols units text symbols × (answer ≡ Ok (symbols_json symbols))

-- THE FOLDS of a text
abbrev pub AreFolds : List ℕ → Result Json ReplyError → Type 0
AreFolds text answer =
    (folds : List Fold) × HasFolds text folds × (answer ≡ Ok (folds_json folds))

-- ---- requests

-- which occurrences are asked for, with the declarations or without
abbrev pub wanted_references : Bool → Wanted
wanted_references with_declarations = if with_declarations then All else ReferencesAlone

-- before the editor has begun
abbrev pub fresh_answer : Request → Result Json ReplyError
fresh_answer (Initialize abilities) = Ok (capabilities_json version abilities)
fresh_answer _ = Err error.NotInitialized

abbrev pub IsOpenAnswer : Session → Files → Request → Result Json ReplyError → Type 0
IsOpenAnswer s disk (Initialize abilities) answer = answer ≡ Err error.InitializedAlready
IsOpenAnswer s disk Shutdown answer = answer ≡ Ok null
IsOpenAnswer s disk (Formatting uri) answer =
    Answered (IsFormatting s.units) (named_text s.documents uri) answer
IsOpenAnswer s disk (Symbols uri) answer =
    Answered (AreSymbols s.units) (named_text s.documents uri) answer
IsOpenAnswer s disk (Folds uri) answer = Answered AreFolds (named_text s.documents uri) answer
IsOpenAnswer s disk (Definition at) answer =
    Answered (AreLocations s disk Declarations) (placed_text s.documents at) answer
IsOpenAnswer s disk (References at with_declarations) answer =
    Answered (AreLocations s disk (wanted_references with_declarations))
    (placed_text s.documents at) answer
IsOpenAnswer s disk (PrepareRename at) answer =
    Answered (IsPrepared s) (placed_text s.documents at) answer
IsOpenAnswer s disk (Rename at new) answer =
    Answered (IsRename s disk new) (placed_text s.documents at) answer
IsOpenAnswer s disk Unknown answer = answer ≡ Err error.UnknownMethod

abbrev pub IsAnswerIn : Session → Files → Request → Result Json ReplyError → Phase → Type 0
IsAnswerIn s disk request answer phase.Fresh = answer ≡ fresh_answer request
IsAnswerIn s disk request answer phase.Open = IsOpenAnswer s disk request answer
IsAnswerIn s disk request answer phase.ShutDown = answer ≡ Err error.ShutDown

-- THE ANSWER in this session, with these files on the disk
abbrev pub IsAnswer : Session → Files → Request → Result Json ReplyError → Type 0
IsAnswer s disk request answer = IsAnswerIn s disk request answer s.phase
