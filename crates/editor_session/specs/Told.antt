-- WHAT AN EDITOR IS TOLD after a document was opened, changed or closed: the diagnostics of the module to which its file
-- belongs, or of documents alone.
use Rattle.std.specs.Prelude.{◌≡◌, ◌++◌, ℕ, List, [], ◌∷◌, Option, Some, None, map}
use Rattle.file_tree.specs.Files.{Files, Name}
use Rattle.open_files.specs.Uris.{path_of}
use Rattle.editor_modules.specs.Messages.{DocumentMessage, TellTexts, message_of}
use Rattle.editor_modules.specs.Shown.{other_uris, shown_in, with_stale, with_told, without_module}
use Rattle.editor_modules.specs.Told.{IsModuleTold, ToldDocument, module_folder, withdrawn}
use Rattle.editor_session.specs.Sessions.{Session}

-- The module of a folder after what was heard of a document: the messages about it, if there are some, and then those about
-- the module's files. What else is shown of the module is withdrawn first. A module that can't be linted shows nothing any
-- more: the document is told alone, and so is each for which something is shown.
abbrev pub TellsModuleOr : Session → Name → List ℕ → List ToldDocument → Option (List ToldDocument)
    → Session → List DocumentMessage → Type 0
TellsModuleOr s folder uri first (Some files) after messages =
    (after ≡ record s { shown = with_told folder (map message_of (first ++ files)) s.shown })
    × (messages ≡ with_stale folder s.shown (map message_of (first ++ files)))
TellsModuleOr s folder uri first None after messages =
    (after ≡ record s { shown = without_module folder s.shown })
    × TellTexts s.units s.documents (uri ∷ other_uris uri (shown_in folder s.shown)) messages

-- a document that belongs to no module is told alone
abbrev pub TellsIn : Session → Files → Option Name → List ℕ → List ToldDocument → Session
    → List DocumentMessage → Type 0
TellsIn s disk None uri first after messages =
    (after ≡ s) × TellTexts s.units s.documents (uri ∷ []) messages
TellsIn s disk (Some folder) uri first after messages = (told : Option (List ToldDocument))
    × IsModuleTold s.units s.documents disk folder told
    × TellsModuleOr s folder uri first told after messages

-- THE MESSAGES after the document of a URI has got this text, and the session after them: if its text isn't known, it is
-- told alone
abbrev pub TellsText : Files → List ℕ → Option (List ℕ) → Session → Session → List DocumentMessage
    → Type 0
TellsText disk uri None s after messages =
    (after ≡ s) × TellTexts s.units s.documents (uri ∷ []) messages
TellsText disk uri (Some text) s after messages =
    TellsIn s disk (module_folder (path_of uri)) uri [] after messages

-- THE MESSAGES after it was closed: first nothing counts any more that was told of it
abbrev pub TellsClosed : Files → List ℕ → Session → Session → List DocumentMessage → Type 0
TellsClosed disk uri s after messages =
    TellsIn s disk (module_folder (path_of uri)) uri (withdrawn uri ∷ []) after messages
