-- WHERE THE FILES OF A MODULE spell a name.
use Rattle.std.specs.Prelude.{◌≡◌, ℕ, ◌&&◌, ◌++◌, Bool, true, false, List, [], ◌∷◌, Option}
use Rattle.std.specs.List.{list_all, list_any}
use Rattle.file_tree.specs.Files.{Files, Name}
use Rattle.hcl_source.specs.Devices.{Tells}
use Rattle.hcl_tokens.specs.Scanned.{Scanned}
use Rattle.text_places.specs.declared.ranges.Range.{Range}
use Rattle.module_find.specs.Modules.{AreAlone, bytes_of_name, names_in}
use Rattle.module_find.specs.declared.module.Module.{Module}
use Rattle.open_files.specs.OpenTexts.{OpenText, file_uri, version_open, with_open}
use Rattle.text_outline.specs.Files.{IsFile, IsRefused}
use Rattle.editor_messages.specs.Names.{DocumentRanges}
use Rattle.editor_names.specs.Names.{Query, declares, ranges_in}
use Rattle.editor_names.specs.declared.file.FileRanges.{FileRanges}
use Rattle.editor_names.specs.declared.file.FileRanges.TheVariants.{Spelled, Refused, Unread}

-- ---- one file

-- THE RANGES of a text
abbrev pub IsTextRanges : Query → List ℕ → FileRanges → Type 0
IsTextRanges q text (Spelled spelling) =
    (s : Scanned) × IsFile text s
    × (spelling.ranges.items ≡ ranges_in q s) × (spelling.declares ≡ declares q s)
IsTextRanges q text Refused = IsRefused text
IsTextRanges q text Unread = ⊥

-- THE RANGES of a file, by the bytes that the device tells for its name. Nothing is claimed of a file that can't be
-- opened or read.
abbrev pub IsFileRanges : Query → Option (List ℕ) → FileRanges → Type 0
IsFileRanges q told Unread = Unit {0}
IsFileRanges q told file = (text : List ℕ) × Tells told text × IsTextRanges q text file

-- it is a file of the language
abbrev pub is_read : FileRanges → Bool
is_read (Spelled spelling) = true
is_read Refused = false
is_read Unread = false

-- it is one that declares the name
abbrev pub file_declares : FileRanges → Bool
file_declares (Spelled spelling) = spelling.declares
file_declares Refused = false
file_declares Unread = false

-- ---- where a document spells a name

-- a document with these ranges, if there are any
abbrev pub document_with : List ℕ → Option ℕ → List Range → List DocumentRanges
document_with uri version [] = []
document_with uri version (r ∷ rs) =
    record { uri = uri; version = version; ranges = r ∷ rs } ∷ []

abbrev pub document_of : List ℕ → Option ℕ → FileRanges → List DocumentRanges
document_of uri version (Spelled spelling) = document_with uri version spelling.ranges.items
document_of uri version Refused = []
document_of uri version Unread = []

-- the documents that spell a name, whether a file declares it, and whether each file that may spell it is one of the
-- language
pub record NameRanges : Type 0 where
  pub documents : List DocumentRanges
  pub is_declared : Bool
  pub is_whole : Bool

-- THE RANGES of a document alone
abbrev pub IsDocumentRanges : Query → List ℕ → Option ℕ → List ℕ → NameRanges → Type 0
IsDocumentRanges q uri version text found =
    (file : FileRanges) × IsTextRanges q text file
    × (found ≡ record {
      documents = document_of uri version file;
      is_declared = file_declares file;
      is_whole = is_read file;
    })

-- ---- where the files of a module spell a name

-- each file has its ranges, in order
abbrev pub AreFileRanges : Query → (Name → Option (List ℕ)) → List Name → List FileRanges
    → Type 0
AreFileRanges q told [] [] = Unit {0}
AreFileRanges q told (name ∷ names) (file ∷ files) =
    IsFileRanges q (told name) file × AreFileRanges q told names files
AreFileRanges q told _ _ = ⊥

-- the documents of the files that spell it, with the URIs and the versions of those that are open
abbrev pub documents_of : List OpenText → List Name → List FileRanges → List DocumentRanges
documents_of documents (name ∷ names) (file ∷ files) =
    document_of (file_uri documents name) (version_open documents name) file
    ++ documents_of documents names files
documents_of documents _ _ = []

-- THE RANGES of the module of a folder, with open documents over its files
pub record AreModuleRanges (q : Query) (documents : List OpenText) (disk : Files)
    (folder : Name) (found : NameRanges) : Type 0 where
  pub candidate : Module
  pub alone : AreAlone (with_open documents disk) folder (candidate ∷ [])
  pub files : List FileRanges
  pub are : AreFileRanges q (bytes_of_name (with_open documents disk)) (names_in candidate) files
  pub documents_are : found.documents ≡ documents_of documents (names_in candidate) files
  pub declared : found.is_declared ≡ list_any file_declares files
  pub whole : found.is_whole ≡ (candidate.is_whole && list_all is_read files)
