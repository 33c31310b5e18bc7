-- The requests that the programs for trees read alike in the words of a line. clap reads the words that are UTF-8: its
-- own definition of the matches of a line decides. The values of `--shard` are our own choice, and so is that all other
-- words are names.
use Rattle.std.specs.Prelude.{ℕ, ◌==◌, ◌&&◌, not, Bool, false, List, [], ◌∷◌, Option, Some, None, codes, drop, filter, fold, length, nat_le, nat_lt, option_map, slice_get, unwrap_or, if◌then◌else◌}
use Rattle.std.specs.List.{after_first, before_first, list_all}
use Rattle.std.specs.Char.{is_ascii_digit}
use Rattle.std.specs.Option.{option_map_or}
use Rattle.std.specs.Str.{is_utf8}
use Rattle.std.specs.Str.Parse.{digits_value}
use Rattle.clap.specs.Words.{App, Row, Rule, Text, all_of, count_of, new_app, new_rule, with_rule}
use Rattle.clap.specs.declared.builder.ArgAction.TheVariants.{Append, Count}
use Rattle.command_line.specs.Arguments.{option_rule}
use Rattle.file_tree.specs.Files.{Name}
use Rattle.tree_words.specs.declared.argument.Argument.{Argument}
use Rattle.tree_words.specs.declared.argument.Argument.TheVariants.{Value, Values, Flag, Null, Jobs, Names}
use Rattle.tree_words.specs.declared.shard.Shard.{Shard}

-- ---- options

-- `--NAME`, which may be given more than once
abbrev pub count_rule : Text → Rule
count_rule name = record (new_rule name) { long = Some name; action = Some Count }

-- `--NAME VALUE`, which may be given more than once
abbrev pub repeated_rule : Text → Rule
repeated_rule name = record (count_rule name) { action = Some Append }

-- `-0` and `--null`
abbrev pub null_rule : Rule
null_rule = record (count_rule (codes "null")) { short = Some 48 }

abbrev pub file_rule : Rule
file_rule = record (new_rule (codes "file")) { action = Some Append }

abbrev pub is_given : Text → List Row → Bool
is_given name rows = nat_lt 0 (count_of name rows)

abbrev pub texts_of : Text → List Row → List Text
texts_of id rows = unwrap_or (all_of id rows) []

-- ---- numbers

abbrev pub most_digits : ℕ
most_digits = 5

-- decimal digits, and the first isn't 0
abbrev pub is_number : Text → Bool
is_number text =
    nat_lt 0 (length text)
    && (nat_le (length text) most_digits
    && (not (option_map_or (λ b. b == 48) (slice_get text 0) false)
    && list_all is_ascii_digit text))

abbrev pub number_in : Text → Option ℕ
number_in text = if is_number text then Some (digits_value 10 text) else None

-- ---- a part of the files

abbrev pub shard_by : Option ℕ → Option ℕ → Option Shard
shard_by (Some number) (Some count) =
    if nat_le 1 number && nat_le number count then Some (record { number = number; count = count })
    else None
shard_by _ _ = None

-- `K/N`
abbrev pub shard_in : Text → Option Shard
shard_in text =
    shard_by (number_in (before_first (λ b. b == 47) text))
    (number_in (after_first (λ b. b == 47) text))

-- no part if there is no text, and nothing if the text names no part
abbrev pub shard_given : Option Text → Option (Option Shard)
shard_given text = option_map_or (λ t. option_map Some (shard_in t)) text (Some None)

-- ---- jobs

-- `-j NUMBER` and `--jobs NUMBER`, which may be given more than once
abbrev pub jobs_rule : Rule
jobs_rule = record (count_rule (codes "jobs")) { short = Some 106; action = Some Append }

abbrev pub max_jobs : ℕ
max_jobs = 9999

abbrev pub is_jobs : Text → Bool
is_jobs text = option_map_or (λ n. nat_le n max_jobs) (number_in text) false

-- each text for the number of jobs is a number from 1 to `max_jobs`
abbrev pub are_jobs_good : List Row → Bool
are_jobs_good rows = list_all is_jobs (texts_of (codes "jobs") rows)

-- ---- a command

abbrev pub argument_rule : Argument → Rule
argument_rule (Value name) = option_rule name.now
argument_rule (Values name) = repeated_rule name.now
argument_rule (Flag name) = count_rule name.now
argument_rule Null = null_rule
argument_rule Jobs = jobs_rule
argument_rule Names = file_rule

abbrev pub with_argument : App → Argument → App
with_argument app argument = with_rule app (argument_rule argument)

-- the command of this name with these arguments, in this order
abbrev pub command_by : Text → List Argument → App
command_by name arguments = fold with_argument (new_app name) arguments

-- ---- words that aren't UTF-8

-- the name of the program, whatever the first word is, and the words after it that are UTF-8
abbrev pub texts_in : Text → List (List ℕ) → List Text
texts_in program words = program ∷ filter is_utf8 (drop 1 words)

-- the words that aren't UTF-8: they are names, wherever they stand
abbrev pub others_in : List (List ℕ) → List Name
others_in words = filter (λ word. not (is_utf8 word)) (drop 1 words)
