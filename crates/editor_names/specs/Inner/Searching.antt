-- The files of a module, searched in turn.
use Rattle.std.specs.Prelude.{◌≡◌, ℕ, List, Option, map}
use Rattle.std.specs.List.{list_all, list_any}
use Rattle.file_tree.specs.Files.{Name}
use Rattle.open_files.specs.OpenTexts.{OpenText}
use Rattle.editor_messages.specs.Views.{document_ranges_seen}
use Rattle.editor_names.specs.Modules.{AreFileRanges, documents_of, file_declares, is_read}
use Rattle.editor_names.specs.Names.{Query}
use Rattle.editor_names.specs.declared.file.FileRanges.{FileRanges}
use Rattle.editor_names.specs.declared.search.NameRanges.{NameRanges}

-- the files of these names were searched
pub record HaveRanges (q : Query) (documents : List OpenText) (told : Name → Option (List ℕ))
    (names : List Name) (found : NameRanges) : Type 0 where
  pub files : List FileRanges
  pub are : AreFileRanges q told names files
  pub documents_are : map document_ranges_seen found.documents.items ≡ documents_of documents names files
  pub declared : found.is_declared ≡ list_any file_declares files
  pub whole : found.is_whole ≡ list_all is_read files
