-- WHAT A TREE TELLS with the texts of open documents over its files. Our own choice.
use Rattle.std.specs.Prelude.{◌==◌, ◌&&◌, not, ℕ, Bool, false, List, [], ◌∷◌, ◌++◌, Option, Some, None, codes, drop, filter, find, flat_map, length, option_and_then, option_map, unwrap_or, if◌then◌else◌}
use Rattle.std.specs.List.{list_any}
use Rattle.std.specs.Str.{bytes_eq}
use Rattle.file_tree.specs.Files.{Files, Name}
use Rattle.file_tree.specs.Names.{begins, ends}
use Rattle.file_tree.specs.declared.kind.Identity.{Identity}
use Rattle.file_tree.specs.declared.kind.Kind.{Kind}
use Rattle.file_tree.specs.declared.kind.Kind.TheVariants.{File}
use Rattle.open_files.specs.Uris.{path_of, uri_of}

-- an open document
pub record OpenText : Type 0 where
  pub uri : List ℕ
  -- that its editor told, if it told one
  pub version : Option ℕ
  -- of its file, if its URI is that of a file on this machine
  pub path : Option Name
  pub text : List ℕ

-- ---- the open documents

-- the text of the document that has this URI, if it is open
abbrev pub text_of : List OpenText → List ℕ → Option (List ℕ)
text_of documents uri = option_map (λ o. o.text) (find (λ o. bytes_eq uri o.uri) documents)

-- its version, if it is open and has one
abbrev pub version_of : List OpenText → List ℕ → Option ℕ
version_of documents uri =
    option_and_then (λ o. o.version) (find (λ o. bytes_eq uri o.uri) documents)

abbrev pub without : List ℕ → List OpenText → List OpenText
without uri documents = filter (λ o. not (bytes_eq uri o.uri)) documents

abbrev pub open_text : List ℕ → Option ℕ → List ℕ → OpenText
open_text uri version text = record {
  uri = uri;
  version = version;
  path = path_of uri;
  text = text;
}

-- the document of this URI has this version and this text now: it stands first, since it is the newest
abbrev pub with_open_text : List ℕ → Option ℕ → List ℕ → List OpenText → List OpenText
with_open_text uri version text documents = open_text uri version text ∷ without uri documents

-- ---- their files

abbrev pub is_path : Name → Option Name → Bool
is_path path None = false
is_path path (Some own) = bytes_eq path own

-- the newest document of the file of this path, if one is open
abbrev pub open_at : List OpenText → Name → Option OpenText
open_at documents path = find (λ o. is_path path o.path) documents

abbrev pub text_open : List OpenText → Name → Option (List ℕ)
text_open documents path = option_map (λ o. o.text) (open_at documents path)

abbrev pub uri_open : List OpenText → Name → Option (List ℕ)
uri_open documents path = option_map (λ o. o.uri) (open_at documents path)

-- the URI of a file: that of its document if one is open
abbrev pub file_uri : List OpenText → Name → List ℕ
file_uri documents name = unwrap_or (uri_open documents name) (uri_of name)

-- the version of the document that is open for a path, if it has one
abbrev pub version_open : List OpenText → Name → Option ℕ
version_open documents path = option_and_then (λ o. o.version) (open_at documents path)

-- ---- their names in a folder

-- the rest of a path after the name of a folder
abbrev pub rest_after : Name → Name → Name
rest_after folder path = drop (length folder) path

-- the path is that of a file directly in a folder, whose name ends in `/`
abbrev pub is_directly_in : Name → Name → Bool
is_directly_in folder path =
    ends (codes "/") folder && begins folder path
    && not (length (rest_after folder path) == 0)
    && not (list_any (λ b. b == 47) (rest_after folder path))

-- the name in a folder of the file of this path, ended by NUL, if it is directly in it
abbrev pub name_in : Name → Option Name → List ℕ
name_in folder None = []
name_in folder (Some path) =
    if is_directly_in folder path then rest_after folder path ++ 0 ∷ [] else []

abbrev pub open_names : Name → List OpenText → List ℕ
open_names folder documents = flat_map (λ o. name_in folder o.path) documents

-- ---- over the files

-- the identity of each open document
abbrev pub open_identity : Identity
open_identity = record { device = 0; inode = 0 }

abbrev pub kind_open : List OpenText → Name → Option Kind
kind_open documents name = option_map (λ _. File open_identity) (text_open documents name)

-- what is open, or else what the files tell
abbrev pub or_told : {X : Type 0} → Option X → Option X → Option X
or_told (Some x) told = Some x
or_told None told = told

-- THE FILES with open documents over them: a name that is open stands for a file with the open text, and is in the
-- listing of its folder
abbrev pub with_open : List OpenText → Files → Files
with_open documents files = record {
  kind = λ name. or_told (kind_open documents name) (files.kind name);
  entry = λ name. or_told (kind_open documents name) (files.entry name);
  listing = λ folder. option_map (λ names. names ++ open_names folder documents)
      (files.listing folder);
  real = λ name. name;
  told = λ name. or_told (text_open documents name) (files.told (files.real name));
  path = files.path;
}
