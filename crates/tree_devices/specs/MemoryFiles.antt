-- What a tree in memory tells: what its names stand for, the names in its folders, the bytes of its files, and where
-- its links lead. Our own choice.
use Rattle.std.specs.Prelude.{ℕ, List, Option, Some, None, find, option_map, unwrap_or}
use Rattle.std.specs.Str.{bytes_eq}
use Rattle.file_tree.specs.Files.{Files, Name}
use Rattle.file_tree.specs.declared.kind.Kind.{Kind}
use Rattle.tree_devices.specs.declared.known.Known.{Known}
use Rattle.tree_devices.specs.declared.stored.Stored.{Stored}

-- the first text that is stored under a name
abbrev pub text_in : List Stored → Name → Option (List ℕ)
text_in stored name =
    option_map (λ s. s.bytes.items) (find (λ s. bytes_eq name s.name.items) stored)

-- where a name leads: to the target of its link, or to the name itself
abbrev pub real_in : List Stored → Name → Name
real_in links name = unwrap_or (text_in links name) name

-- the first known answers for a name
abbrev pub known_in : List Known → Name → Option Known
known_in known name = find (λ k. bytes_eq name k.name.items) known

abbrev pub kind_told : Option Known → Option Kind
kind_told None = None
kind_told (Some k) = k.kind

abbrev pub listing_told : Option Known → Option (List ℕ)
listing_told None = None
listing_told (Some k) = option_map (λ names. names.items) k.listing

abbrev pub files_in : List Known → List Stored → List Stored → Files
files_in known files links = record {
  kind = λ name. kind_told (known_in known name);
  entry = λ name. option_map (λ k. k.entry) (known_in known name);
  listing = λ name. listing_told (known_in known name);
  real = real_in links;
  told = text_in files;
  path = λ name. None;
}
