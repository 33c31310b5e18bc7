-- The request in the words of a `tffmt-all` line. clap reads the words that are UTF-8 as a simple command: its own
-- definitions of the matches and the faults of a line decide. The values of the options are our own choice, and so is
-- that all other words are names.
use Rattle.std.specs.Prelude.{ℕ, ◌==◌, ◌&&◌, not, Bool, true, false, List, [], ◌∷◌, ◌++◌, Option, Some, None, Result, Ok, Err, codes, fold, length, if◌then◌else◌}
use Rattle.std.specs.Option.{option_map_or}
use Rattle.clap.specs.Words.{App, Row, Text, fault_of, first_of, matches_of, new_app, with_rule}
use Rattle.command_line.specs.Arguments.{option_rule, unless_fault, usage_by}
use Rattle.file_tree.specs.Choices.{Chosen, chosen_by}
use Rattle.file_tree.specs.Files.{Name}
use Rattle.file_tree.specs.declared.tree.Writing.{Writing}
use Rattle.tree_format.specs.declared.mode.Ending.{Ending}
use Rattle.tree_format.specs.declared.mode.Ending.TheVariants.{Line, Null}
use Rattle.tree_format.specs.declared.mode.Mode.{Mode}
use Rattle.tree_format.specs.declared.mode.Mode.TheVariants.{Write, Check, List as Listed, Diff}
use Rattle.tree_words.specs.Line.{are_jobs_good, count_rule, file_rule, is_given, jobs_rule, null_rule, others_in, repeated_rule, shard_given, texts_in, texts_of}
use Rattle.tree_words.specs.declared.shard.Shard.{Shard}
use Rattle.tree_command.specs.declared.usage.Usage.{Usage}
use Rattle.tree_command.specs.declared.usage.Usage.TheVariants.{Help, Version, BadLine, TwoModes, BadPart, BadJobs, NamesTwice, OutOfMemory}

-- the parts of a line that are never wrong by themselves: whether names are read from standard input, whether the
-- message about the run as a whole is left out, whether a named file is taken whatever its name, the excluded paths,
-- and the names of the line
pub record Given : Type 0 where
  pub null : Bool
  pub quiet : Bool
  pub any_name : Bool
  pub excluded : List Name
  pub names : List Name

-- the request of a line: the mode, the part of the files, and the parts of the line that are never wrong by themselves
pub record Request : Type 0 where
  pub mode : Mode
  pub shard : Option Shard
  pub given : Given

-- the files that a line chooses, among those that its names stand for
pub record Selection : Type 0 where
  pub shard : Option Shard
  pub chosen : Chosen

abbrev pub selection_of : Request → Selection
selection_of asking =
    record { shard = asking.shard; chosen = chosen_by asking.given.any_name asking.given.excluded }

-- ---- the command

-- `tffmt-all [--check | --diff | --list] [--in-place] [--sync] [--quiet] [--shard K/N] [--exclude PATH]... [--any-name]
-- [--jobs NUMBER] [--null] [--version] [--] [FILE|FOLDER]...`
abbrev pub tffmt_all : App
tffmt_all =
    fold with_rule (new_app (codes "tffmt-all"))
    (count_rule (codes "check") ∷ count_rule (codes "diff") ∷ count_rule (codes "list")
    ∷ count_rule (codes "in-place") ∷ count_rule (codes "sync")
    ∷ count_rule (codes "quiet") ∷ count_rule (codes "any-name") ∷ count_rule (codes "version")
    ∷ null_rule ∷ option_rule (codes "shard") ∷ repeated_rule (codes "exclude")
    ∷ jobs_rule ∷ file_rule ∷ [])

-- ---- the mode

-- the mode of one of the three flags, or of none; `--check --diff` is `--diff`, which has the status of the check
abbrev pub mode_by : Bool → Bool → Bool → Ending → Writing → Option Mode
mode_by false false false ending writing = Some (Write writing)
mode_by true false false ending writing = Some Check
mode_by false true false ending writing = Some Diff
mode_by true true false ending writing = Some Diff
mode_by false false true ending writing = Some (Listed ending)
mode_by _ _ _ ending writing = None

-- with `--null` a printed name ends as those that are read
abbrev pub mode_asked : List Row → Option Mode
mode_asked rows =
    mode_by (is_given (codes "check") rows) (is_given (codes "diff") rows)
    (is_given (codes "list") rows) (if is_given (codes "null") rows then Null else Line)
    (record { in_place = is_given (codes "in-place") rows; sync = is_given (codes "sync") rows })

-- ---- the line

-- names are read from standard input or are on the line, and not both
abbrev pub request_by : Option Mode → Option (Option Shard) → Bool → Given → Result Request Usage
request_by None shard are_jobs given = Err TwoModes
request_by (Some mode) None are_jobs given = Err BadPart
request_by (Some mode) (Some shard) false given = Err BadJobs
request_by (Some mode) (Some shard) true given =
    if given.null && not (length given.names == 0) then Err NamesTwice
    else Ok (record { mode = mode; shard = shard; given = given })

-- the names of a line are those that clap finds, and then the words that aren't UTF-8
abbrev pub given_by : List Name → List Row → Given
given_by others rows = record {
  null = is_given (codes "null") rows;
  quiet = is_given (codes "quiet") rows;
  any_name = is_given (codes "any-name") rows;
  excluded = texts_of (codes "exclude") rows;
  names = texts_of (codes "file") rows ++ others;
}

abbrev pub request_of_rows : List Name → List Row → Result Request Usage
request_of_rows others rows =
    if is_given (codes "version") rows then Err Version
    else request_by (mode_asked rows) (shard_given (first_of (codes "shard") rows))
    (are_jobs_good rows) (given_by others rows)

-- the request in these texts, and these other words, which are names, unless memory runs out
abbrev pub request_of_texts : List Text → List Name → Result Request Usage
request_of_texts texts others =
    unless_fault (usage_by OutOfMemory Help BadLine) (fault_of tffmt_all texts)
    (request_of_rows others (matches_of tffmt_all texts))

-- the mode that these texts request, if clap finds no fault in them
abbrev pub mode_of_texts : List Text → Option Mode
mode_of_texts texts = mode_asked (matches_of tffmt_all texts)

-- ---- all words

-- THE REQUEST in the words, the program's name first, unless memory runs out
abbrev pub request_of_words : List (List ℕ) → Result Request Usage
request_of_words words = request_of_texts (texts_in (codes "tffmt-all") words) (others_in words)

-- whether the request needs names from standard input
abbrev pub reads_names : Result Request Usage → Bool
reads_names (Ok asking) = asking.given.null
reads_names (Err usage) = false

abbrev pub mode_of_words : List (List ℕ) → Option Mode
mode_of_words words = mode_of_texts (texts_in (codes "tffmt-all") words)
