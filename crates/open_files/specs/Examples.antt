-- Open documents over a small tree, by computation.
use Rattle.std.specs.Prelude.{◌≡◌, ◌∷◌, ◌++◌, refl, List, [], Some, None, codes, if◌then◌else◌}
use Rattle.std.specs.Str.{bytes_eq}
use Rattle.file_tree.specs.Files.{Files, silent_files}
use Rattle.file_tree.specs.declared.kind.Kind.TheVariants.{File}
use Rattle.percent_encoding.specs.Percent.{percent_decode}
use Rattle.open_files.specs.OpenTexts.{OpenText, open_identity, open_text, text_of, text_open, uri_open, version_of, version_open, with_open, with_open_text, without}

-- a folder with one file, and three documents that are open: two are files in it
abbrev disk : Files
disk = record silent_files {
  listing = λ folder.
      if bytes_eq folder (codes "/m/") then Some (codes "a.tf" ++ 0 ∷ []) else None;
  told = λ name. if bytes_eq name (codes "/m/a.tf") then Some (codes "old") else None;
}

abbrev documents : List OpenText
documents = with_open_text (codes "file:///m/b.tf") (Some 3) (codes "more")
    (with_open_text (codes "untitled:1") None (codes "none")
    (with_open_text (codes "file:///m/a.tf") (Some 7) (codes "new") []))

abbrev files : Files
files = with_open documents disk

open_one : files.told (codes "/m/a.tf") ≡ Some (codes "new")
unfolding percent_decode
open_one = refl

a_file : files.entry (codes "/m/b.tf") ≡ Some (File open_identity)
unfolding percent_decode
a_file = refl

-- the second document has no file on disk yet
listed : files.listing (codes "/m/") ≡ Some (codes "a.tf" ++ 0 ∷ codes "b.tf" ++ 0 ∷ codes "a.tf" ++ 0 ∷ [])
unfolding percent_decode
listed = refl

other_folder : files.listing (codes "/") ≡ None
other_folder = refl

-- of a name whose front is a folder's, but without its slash
neighbour : (with_open (open_text (codes "file:///mm/b.tf") None [] ∷ []) disk).listing (codes "/m/") ≡ Some (codes "a.tf" ++ 0 ∷ [])
unfolding percent_decode
neighbour = refl

below : (with_open (open_text (codes "file:///m/n/b.tf") None [] ∷ []) disk).listing (codes "/m/") ≡ Some (codes "a.tf" ++ 0 ∷ [])
unfolding percent_decode
below = refl

-- after a document is closed, its file is read
closed : (with_open (without (codes "file:///m/a.tf") documents) disk).told (codes "/m/a.tf") ≡ Some (codes "old")
unfolding percent_decode
closed = refl

-- a document that is changed has its last text alone
changed : text_of (with_open_text (codes "file:///m/a.tf") (Some 8) (codes "newer") documents) (codes "file:///m/a.tf") ≡ Some (codes "newer")
changed = refl

-- another URI of the same file: the newest document counts
newest : text_open (with_open_text (codes "file:///m/%61.tf") None (codes "newest") documents) (codes "/m/a.tf") ≡ Some (codes "newest")
unfolding percent_decode
newest = refl

own_uri : uri_open (with_open_text (codes "file:///m/%61.tf") (Some 9) [] documents) (codes "/m/a.tf") ≡ Some (codes "file:///m/%61.tf")
unfolding percent_decode
own_uri = refl

-- and its version, but that of each other document stays
own_version : version_open (with_open_text (codes "file:///m/%61.tf") (Some 9) [] documents) (codes "/m/a.tf") ≡ Some 9
unfolding percent_decode
own_version = refl

other_version : version_of (with_open_text (codes "file:///m/%61.tf") (Some 9) [] documents) (codes "file:///m/a.tf") ≡ Some 7
other_version = refl

-- a document whose editor told none
no_version : version_of documents (codes "untitled:1") ≡ None
no_version = refl

-- a document that is no file
untitled : text_of documents (codes "untitled:1") ≡ Some (codes "none")
untitled = refl
