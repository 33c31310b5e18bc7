-- The vocabulary with which `tfrules-all` finds and explains a wrong word. Our own choice.
use Rattle.std.specs.Prelude.{[], ◌∷◌, codes}
use Rattle.lint_command.specs.Line.{tfrules_all}
use Rattle.tree_words.specs.WrongWords.{Vocabulary, letters_of, names_of}

-- besides its own options, some of TFLint and of `terraform`
abbrev pub linter_words : Vocabulary
linter_words = record {
  names = names_of tfrules_all;
  letters = letters_of tfrules_all;
  error = codes "tfrules-all: error: unknown option ";
  foreign =
      record { option = codes "-recursive"; hint = codes "; folders are always walked whole" }
      ∷ record { option = codes "--recursive"; hint = codes "; folders are always walked whole" }
      ∷ record { option = codes "-chdir"; hint = codes "; name the folder instead" }
      ∷ record { option = codes "--chdir"; hint = codes "; name the folder instead" }
      ∷ record { option = codes "--only"; hint = codes "; write --rules LIST" }
      ∷ record { option = codes "--fix"; hint = codes "; no file is ever changed" } ∷ [];
  usage =
      codes
      "usage: tfrules-all [--rules LIST] [--naming NAMING]\n                   [--minimum-failure-severity SEVERITY] [--force]\n                   [--check-comments] [--no-config] [--format FORM] [--quiet]\n                   [--shard K/N] [--null] [--] [FILE|FOLDER]...\n       tfrules-all --list-rules\n       tfrules-all --explain RULE\n";
}
