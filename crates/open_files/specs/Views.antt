-- Open documents and readers as the code has them.
use Rattle.std.specs.Prelude.{ℕ, List, Option, Vec, map, option_map, string_bytes}
use Rattle.file_tree.specs.Files.{Name}
use Rattle.open_files.specs.OpenTexts.{OpenText}
use Rattle.open_files.specs.declared.document.OpenFile.{OpenFile}
use Rattle.open_files.specs.declared.reader.OpenReader.{OpenReader}
use Rattle.open_files.specs.declared.reader.OpenReader.TheVariants.{File, Text}

abbrev pub path_seen : {A : Type 0} → Option (Vec ℕ A) → Option Name
path_seen path = option_map (λ p. p.items) path

abbrev pub file_seen : OpenFile → OpenText
file_seen file = record {
  uri = string_bytes file.uri;
  version = file.version;
  path = path_seen file.path;
  text = string_bytes file.text;
}

abbrev pub open_seen : List OpenFile → List OpenText
open_seen files = map file_seen files

-- this of the text's reader, or that of the file's
abbrev pub of_reader : {O R X : Type 0} → (O → X) → (R → X) → OpenReader O R → X
of_reader this that (Text reader) = this reader
of_reader this that (File reader) = that reader
