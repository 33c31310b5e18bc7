-- The message for a wrong line: the first word that is meant as an option and is none of the program's, what to write
-- instead, and the usage. Our own choice.
use Rattle.std.specs.Prelude.{ℕ, ◌==◌, ◌||◌, not, Bool, false, List, [], ◌++◌, Option, Some, None, codes, drop, filter_map, find, option_and_then, slice_get, if◌then◌else◌}
use Rattle.std.specs.List.{before_first, list_any}
use Rattle.std.specs.Option.{option_map_or}
use Rattle.std.specs.Str.{bytes_eq}
use Rattle.clap.specs.Lexer.{long_of, short_of}
use Rattle.clap.specs.Words.{App, Text, built}
use Rattle.file_tree.specs.Quotes.{shown_name}

-- an option of another program, and the hint after it: what to write instead
pub record Foreign : Type 0 where
  pub option : Text
  pub hint : List ℕ

-- what a program needs to find and explain a wrong word: the names and the letters of its options, the text before the
-- word, options of other programs, and the usage
pub record Vocabulary : Type 0 where
  pub names : List Text
  pub letters : List ℕ
  pub error : List ℕ
  pub foreign : List Foreign
  pub usage : List ℕ

-- ---- the options

-- the names of a command's options, and `--help`, which clap adds
abbrev pub names_of : App → List Text
names_of app = filter_map (λ option. option.long) (built app).top.rules

abbrev pub letters_of : App → List ℕ
letters_of app = filter_map (λ option. option.short) (built app).top.rules

abbrev pub is_name : Vocabulary → Text → Bool
is_name v text = list_any (λ name. bytes_eq name text) v.names

abbrev pub is_letter : Vocabulary → ℕ → Bool
is_letter v byte = list_any (λ letter. letter == byte) v.letters

-- ---- the wrong word

-- clap reads the word as `--NAME` or `--NAME=VALUE`, or as letters after a dash, and no option has this name or the
-- first of these letters
abbrev pub is_wrong : Vocabulary → Text → Bool
is_wrong v word =
    option_map_or (λ option. not (is_name v option.0)) (long_of word)
    (option_map_or (λ letters. not (option_map_or (is_letter v) (slice_get letters 0) false))
    (short_of word) false)

-- all words after this one are names
abbrev pub is_end : Text → Bool
is_end word = bytes_eq word (codes "--")

abbrev pub unless_end : Text → Option Text
unless_end word = if is_end word then None else Some word

-- THE WRONG WORD of a line: the first one, unless all words from an earlier one on are names
abbrev pub wrong_word : Vocabulary → List Text → Option Text
wrong_word v texts =
    option_and_then unless_end (find (λ word. is_end word || is_wrong v word) (drop 1 texts))

-- ---- the message

-- the word is this option of another program, with a value or without
abbrev pub is_foreign : Text → Foreign → Bool
is_foreign word f = bytes_eq f.option word || bytes_eq f.option (before_first (λ b. b == 61) word)

abbrev pub foreign_hint : Vocabulary → Text → List ℕ
foreign_hint v word = option_map_or (λ f. f.hint) (find (is_foreign word) v.foreign) []

-- what to write instead: an option with one dash is written with two
abbrev pub hint_of : Vocabulary → Text → List ℕ
hint_of v word = if is_name v (drop 1 word) then codes "; write -" ++ word else foreign_hint v word

-- `PROGRAM: error: unknown option WORD; WHAT TO WRITE`, and the usage
abbrev pub about_word : Vocabulary → Text → List ℕ
about_word v word = v.error ++ shown_name word ++ hint_of v word ++ codes "\n" ++ v.usage

-- THE MESSAGE for a wrong line: its wrong word, if it has one, and the usage
abbrev pub bad_line_words : Vocabulary → List Text → List ℕ
bad_line_words v texts = option_map_or (about_word v) (wrong_word v texts) v.usage
