-- THE ANSWERS about the name at a place of a document.
use Rattle.std.specs.Prelude.{◌≡◌, ◌&&◌, not, ℕ, Bool, true, false, List, [], ◌∷◌, Option, Some, None, Result, Ok, Err, if◌then◌else◌}
use Rattle.std.specs.Str.{chars}
use Rattle.file_tree.specs.Files.{Files, Name as FileName}
use Rattle.open_files.specs.Uris.{path_of}
use Rattle.hcl_tokens.specs.Spelling.{are_ident}
use Rattle.json.specs.Json.{Json, null}
use Rattle.open_files.specs.OpenTexts.{version_of}
use Rattle.text_places.specs.declared.place.Place.{Place}
use Rattle.tf_names.specs.Names.{Name, last_part, with_last_part}
use Rattle.editor_messages.specs.Names.{DocumentRanges, locations_json, prepared_json, rename_json}
use Rattle.editor_messages.specs.declared.error.ReplyError.{ReplyError}
use Rattle.editor_messages.specs.declared.error.ReplyError.TheVariants as error
use Rattle.editor_modules.specs.Told.{module_folder}
use Rattle.editor_names.specs.Modules.{AreModuleRanges, IsDocumentRanges, NameRanges}
use Rattle.editor_names.specs.Names.{HasNameAt, NamedRange, Query}
use Rattle.editor_names.specs.declared.query.Wanted.{Wanted}
use Rattle.editor_names.specs.declared.query.Wanted.TheVariants.{All}
use Rattle.editor_session.specs.Sessions.{Session}

-- a place in a document whose text is known
pub record TextPlace : Type 0 where
  pub uri : List ℕ
  pub place : Place
  pub text : List ℕ

abbrev pub query_for : Session → Name → Wanted → Query
query_for s name wanted = record { name = name; wanted = wanted; units = s.units }

-- ---- where a name is spelled

-- in the module of this folder, or in the document alone
abbrev pub AreRangesIn : Session → Files → TextPlace → Query → NameRanges → Option FileName → Type 0
AreRangesIn s disk p q found None =
    IsDocumentRanges q p.uri (version_of s.documents p.uri) p.text found
AreRangesIn s disk p q found (Some folder) = AreModuleRanges q s.documents disk folder found

-- in the module of the document, or in the document alone if its file belongs to none
abbrev pub AreRanges : Session → Files → TextPlace → Query → NameRanges → Type 0
AreRanges s disk p q found = AreRangesIn s disk p q found (module_folder (path_of p.uri))

-- ---- definition and references

abbrev pub AreLocationsOf : Session → Files → Wanted → TextPlace → Result Json ReplyError
    → Option NamedRange → Type 0
AreLocationsOf s disk wanted p answer None = answer ≡ Ok (locations_json [])
AreLocationsOf s disk wanted p answer (Some n) =
    (found : NameRanges) × AreRanges s disk p (query_for s n.name wanted) found
    × (answer ≡ Ok (locations_json found.documents))

-- THE PLACES where the name at a place occurs: none if there is no name
abbrev pub AreLocations : Session → Files → Wanted → TextPlace → Result Json ReplyError → Type 0
AreLocations s disk wanted p answer =
    (named : Option NamedRange) × HasNameAt s.units p.place p.text named
    × AreLocationsOf s disk wanted p answer named

-- ---- a new name

abbrev pub preparation : Option NamedRange → Json
preparation None = null
preparation (Some n) = prepared_json n.range (last_part n.name)

-- THE NAME at a place, if there is one, before it is changed
abbrev pub IsPrepared : Session → TextPlace → Result Json ReplyError → Type 0
IsPrepared s p answer =
    (named : Option NamedRange) × HasNameAt s.units p.place p.text named
    × (answer ≡ Ok (preparation named))

-- the changes, unless the new name is spelled already
abbrev pub changes_unless : Session → List ℕ → List DocumentRanges → List DocumentRanges
    → Result Json ReplyError
changes_unless s new old [] = Ok (rename_json s.takes_versions new old)
changes_unless s new old (d ∷ ds) = Err error.NameTaken

-- The changes of a name to this one, by where the old name is spelled, and where the new one is before. If the text of an
-- open document was lost, its file may spell them elsewhere; and what declares the old name outside the files would keep it.
abbrev pub renaming : Session → List ℕ → NameRanges → NameRanges → Result Json ReplyError
renaming s new old taken =
    if s.has_lost then Err error.LostText
    else if not (old.is_whole && taken.is_whole) then Err error.UnreadModule
    else if not old.is_declared then Err error.NoDeclaration
    else changes_unless s new old.documents taken.documents

abbrev pub IsRenamingOf : Session → Files → List ℕ → TextPlace → Result Json ReplyError
    → Option NamedRange → Type 0
IsRenamingOf s disk new p answer None = answer ≡ Err error.NoName
IsRenamingOf s disk new p answer (Some n) =
    (old taken : NameRanges) × AreRanges s disk p (query_for s n.name All) old
    × AreRanges s disk p (query_for s (with_last_part new n.name) All) taken
    × (answer ≡ renaming s new old taken)

-- the name at a place gets this identifier as its last part
abbrev pub IsRenaming : Session → Files → List ℕ → TextPlace → Result Json ReplyError → Type 0
IsRenaming s disk new p answer =
    (named : Option NamedRange) × HasNameAt s.units p.place p.text named
    × IsRenamingOf s disk new p answer named

abbrev pub IsRenameIf : Session → Files → List ℕ → TextPlace → Result Json ReplyError → Bool
    → Type 0
IsRenameIf s disk new p answer true = IsRenaming s disk new p answer
IsRenameIf s disk new p answer false = answer ≡ Err error.NotIdentifier

-- THE CHANGES of the name at a place to a new one: in all files of the module, each of which must be one of the language,
-- if one of them declares the name and none spells the new one yet
abbrev pub IsRename : Session → Files → Option (List ℕ) → TextPlace → Result Json ReplyError
    → Type 0
IsRename s disk None p answer = answer ≡ Err error.NotIdentifier
IsRename s disk (Some new) p answer = IsRenameIf s disk new p answer (are_ident (chars new))
