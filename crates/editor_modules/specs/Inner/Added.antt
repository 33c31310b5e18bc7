-- Messages about documents alone.
use Rattle.std.specs.Prelude.{◌≡◌, ◌++◌, ℕ, List, Option}
use Rattle.open_files.specs.OpenTexts.{OpenText}
use Rattle.text_places.specs.declared.place.Units.{Units}
use Rattle.editor_modules.specs.Messages.{DocumentMessage, TellTexts, TellsDocument}
use Rattle.editor_modules.specs.Told.{IsToldByText, ToldDocument}
use Rattle.editor_modules.specs.declared.message.ToldMessage.{ToldMessage}

-- a message about a document that has this text, or about one that isn't open
abbrev pub TellsByText : Units → List ℕ → Option (List ℕ) → ToldMessage → Type 0
TellsByText units uri text message = (told : ToldDocument) × IsToldByText units uri text told × TellsDocument told message

-- messages about these documents follow those that were there
abbrev pub AddTexts : Units → List OpenText → List (List ℕ) → List DocumentMessage → List DocumentMessage → Type 0
AddTexts units documents uris old new = (more : List DocumentMessage) × TellTexts units documents uris more × (new ≡ old ++ more)
