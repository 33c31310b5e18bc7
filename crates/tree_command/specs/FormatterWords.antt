-- The vocabulary with which `tffmt-all` finds and explains a wrong word. Our own choice.
use Rattle.std.specs.Prelude.{[], ◌∷◌, codes}
use Rattle.tree_command.specs.Line.{tffmt_all}
use Rattle.tree_words.specs.WrongWords.{Vocabulary, letters_of, names_of}

-- besides its own options, two of `terraform fmt`, with one dash or with two
abbrev pub formatter_words : Vocabulary
formatter_words = record {
  names = names_of tffmt_all;
  letters = letters_of tffmt_all;
  error = codes "tffmt-all: error: unknown option ";
  foreign =
      record { option = codes "-recursive"; hint = codes "; folders are always walked whole" }
      ∷ record { option = codes "--recursive"; hint = codes "; folders are always walked whole" }
      ∷ record { option = codes "-write=false"; hint = codes "; write --list, --check or --diff" }
      ∷ record { option = codes "--write=false"; hint = codes "; write --list, --check or --diff" }
      ∷ [];
  usage =
      codes
      "usage: tffmt-all [--check | --diff | --list] [--in-place] [--sync] [--quiet]\n                 [--shard K/N] [--exclude PATH]... [--any-name] [--null] [--]\n                 [FILE|FOLDER]...\n";
}
