-- The messages that tell the diagnostics of documents.
use Rattle.std.specs.Prelude.{◌≡◌, ◌==◌, not, ℕ, Bool, List, Option, Some, None, Vec, length, map, string_bytes}
use Rattle.file_tree.specs.Files.{Files, Name}
use Rattle.lint_forms.specs.JsonValues.{json_text}
use Rattle.open_files.specs.OpenTexts.{OpenText}
use Rattle.text_places.specs.declared.place.Units.{Units}
use Rattle.editor_messages.specs.Diagnostics.{diagnostics_json}
use Rattle.editor_modules.specs.Told.{AreToldByTexts, IsModuleTold, ToldDocument}
use Rattle.editor_modules.specs.declared.message.ToldMessage.{ToldMessage}

-- a message about the document that has this URI
pub record DocumentMessage : Type 0 where
  pub uri : List ℕ
  pub body : List ℕ
  -- whether it tells a diagnostic
  pub has_diagnostics : Bool

-- the message that tells a document
abbrev pub message_of : ToldDocument → DocumentMessage
message_of told = record {
  uri = told.uri;
  body = json_text (diagnostics_json told.uri told.diagnostics);
  has_diagnostics = not (length told.diagnostics == 0);
}

abbrev pub message_seen : ToldMessage → DocumentMessage
message_seen m = record {
  uri = string_bytes m.uri;
  body = m.body.items;
  has_diagnostics = m.has_diagnostics;
}

-- the message tells this document
abbrev pub TellsDocument : ToldDocument → ToldMessage → Type 0
TellsDocument told message = message_seen message ≡ message_of told

-- these messages tell these documents in turn
abbrev pub AreMessages : List ToldDocument → List ToldMessage → Type 0
AreMessages told messages = map message_seen messages ≡ map message_of told

-- THE MESSAGES about documents alone
abbrev pub TellTexts : Units → List OpenText → List (List ℕ) → List DocumentMessage → Type 0
TellTexts units documents uris messages = (told : List ToldDocument)
    × AreToldByTexts units documents uris told × (messages ≡ map message_of told)

-- THE MESSAGES about the module of a folder, or none if it can't be linted
abbrev pub TellsModule : {Z : Type 0} → Units → List OpenText → Files → Name
    → Option (Vec ToldMessage Z) → Type 0
TellsModule units documents disk folder (Some messages) =
    (told : List ToldDocument) × IsModuleTold units documents disk folder (Some told)
    × AreMessages told messages.items
TellsModule units documents disk folder None = IsModuleTold units documents disk folder None
