-- WHAT AN EDITOR SHOWS of modules: the documents for which its last message told a diagnostic. What isn't told again is to be
-- withdrawn, since an editor shows it until then.
use Rattle.std.specs.Prelude.{not, ℕ, Bool, List, [], ◌∷◌, ◌++◌, Option, Some, None, filter, find, map, string_bytes}
use Rattle.std.specs.List.{list_any}
use Rattle.std.specs.Str.{bytes_eq}
use Rattle.file_tree.specs.Files.{Name}
use Rattle.editor_modules.specs.Messages.{DocumentMessage, message_of}
use Rattle.editor_modules.specs.Told.{withdrawn}
use Rattle.editor_modules.specs.declared.shown.ModuleUris.{ModuleUris}

-- the module of a folder, and the URIs of those of its documents that show something
pub record ShownModule : Type 0 where
  pub folder : Name
  pub uris : List (List ℕ)

-- as the code has it
abbrev pub module_seen : ModuleUris → ShownModule
module_seen m = record { folder = m.folder.items; uris = map string_bytes m.uris.items }

abbrev pub uris_shown : Option ShownModule → List (List ℕ)
uris_shown None = []
uris_shown (Some m) = m.uris

abbrev pub shown_in : Name → List ShownModule → List (List ℕ)
shown_in folder shown = uris_shown (find (λ m. bytes_eq folder m.folder) shown)

-- those of these documents that have another URI
abbrev pub other_uris : List ℕ → List (List ℕ) → List (List ℕ)
other_uris uri uris = filter (λ other. not (bytes_eq uri other)) uris

-- ---- after these messages about the module of a folder

-- one of them is about the document of this URI
abbrev pub is_told : List DocumentMessage → List ℕ → Bool
is_told messages uri = list_any (λ m. bytes_eq uri m.uri) messages

-- what is shown and isn't told again
abbrev pub stale : List (List ℕ) → List DocumentMessage → List (List ℕ)
stale uris messages = filter (λ uri. not (is_told messages uri)) uris

-- THE MESSAGES with those before them that withdraw the rest of what is shown
abbrev pub with_stale : Name → List ShownModule → List DocumentMessage → List DocumentMessage
with_stale folder shown messages =
    map (λ uri. message_of (withdrawn uri)) (stale (shown_in folder shown) messages) ++ messages

-- the documents for which they tell something
abbrev pub uris_told : List DocumentMessage → List (List ℕ)
uris_told messages = map (λ m. m.uri) (filter (λ m. m.has_diagnostics) messages)

abbrev pub without_module : Name → List ShownModule → List ShownModule
without_module folder shown = filter (λ m. not (bytes_eq folder m.folder)) shown

-- a module that shows nothing isn't listed
abbrev pub listed_module : Name → List (List ℕ) → List ShownModule
listed_module folder [] = []
listed_module folder (u ∷ us) = record { folder = folder; uris = u ∷ us } ∷ []

-- WHAT IS SHOWN after them
abbrev pub with_told : Name → List DocumentMessage → List ShownModule → List ShownModule
with_told folder messages shown =
    without_module folder shown ++ listed_module folder (uris_told messages)
