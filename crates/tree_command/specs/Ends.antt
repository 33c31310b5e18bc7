-- The end of a run of `tffmt-all`. Its texts and statuses are our own choice.
use Rattle.std.specs.Prelude.{◌≡◌, ◌≢◌, ◌⊎◌, ℕ, Bool, true, false, List, [], Option, Result, Ok, Err, All, codes, if◌then◌else◌}
use Rattle.command_line.specs.Rows.{End, Row, Shows, fails_with, message_row, out_of_memory, output_row, write_failed}
use Rattle.clap.specs.Words.{Text}
use Rattle.file_tree.specs.Files.{Faults, Files, Name}
use Rattle.file_tree.specs.Finds.{AreReal, Finds}
use Rattle.file_tree.specs.Once.{KeepsOnce}
use Rattle.file_tree.specs.declared.walk.Found.{Found}
use Rattle.tree_format.specs.Runs.{IsRun, Settled}
use Rattle.tree_format.specs.States.{State}
use Rattle.tree_format.specs.Tally.{end_line, tally_of}
use Rattle.tree_format.specs.declared.mode.Mode.{Mode}
use Rattle.tree_format.specs.declared.outcome.Outcome.{Outcome}
use Rattle.tree_format.specs.declared.tally.Tally.{Tally}
use Rattle.tree_command.specs.Formatter.{formatter}
use Rattle.tree_command.specs.FormatterWords.{formatter_words}
use Rattle.tree_command.specs.Line.{Request, Selection, request_of_words, selection_of}
use Rattle.tree_words.specs.Ends.{EndsBy}
use Rattle.tree_words.specs.Line.{texts_in}
use Rattle.tree_words.specs.Shards.{picked_of}
use Rattle.tree_words.specs.WrongWords.{bad_line_words}
use Rattle.tree_command.specs.declared.usage.Usage.{Usage}
use Rattle.tree_command.specs.declared.usage.Usage.TheVariants.{Help, Version, BadLine, TwoModes, BadPart, BadJobs, NamesTwice, OutOfMemory}

-- the last message of a run with this tally: the number of files, unless the run is quiet, or that a write failed
abbrev pub words_at_end : Bool → Mode → Bool → Tally → List ℕ
words_at_end quiet mode out_failed tally =
    if out_failed then write_failed formatter else (if quiet then [] else end_line mode tally)

abbrev pub last_words : Bool → Mode → Bool → List Outcome → List ℕ
last_words quiet mode out_failed answers = words_at_end quiet mode out_failed (tally_of answers)

-- the found names are those that these paths stand for, without links to files that are found under another name as
-- well, and as far as the part takes them; a name that can't be looked at is among them because a call failed
abbrev pub IsSelected : Files → Faults → Faults → Selection → List Name → List Found → Type 0
IsSelected files was walked selection paths found =
    (all : List Found) × Finds files selection.chosen paths all
    × AreReal files selection.chosen paths was walked all
    × ((once : List Found) × KeepsOnce all once × (found ≡ picked_of selection.shard once))

-- THE FILES WERE FOUND that these paths stand for, and then each was looked at. If messages are read on a terminal, the
-- lines of faults are shown.
pub record Formats (shows quiet : Bool) (mode : Mode) (selection : Selection) (paths : List Name)
    (before after : State) (end : End) : Type 0 where
  pub found : List Found
  pub walked : Faults  -- the faults of calls up to the end of the walk
  pub finds : IsSelected before.files before.faults walked selection paths found
  pub run : IsRun shows mode found (last_words quiet mode end.out.failed)
      (record before { faults = walked }) after end
  -- unless something failed, each file that was found is settled
  pub done : end.status ≢ 4
      → All (λ f. Settled mode (before.files.told (before.files.real f.name.items))
      (after.files.told (before.files.real f.name.items))) found
  -- a file to which no found name leads keeps its bytes
  pub untouched : (name : Name) → All (λ f. name ≢ before.files.real f.name.items) found
      → after.files.told name ≡ before.files.told name

-- no file was changed, no replacement asked for, and only this row is shown
abbrev pub SaysOnly : Row → State → State → End → Type 0
SaysOnly row before after end =
    (after.files ≡ before.files) × (after.asked ≡ before.asked) × Shows formatter row end

-- ---- runs that look at no file

abbrev pub help_text : List ℕ
help_text =
    codes
    "usage: tffmt-all [--check | --diff | --list] [--in-place] [--sync] [--quiet]\n                 [--shard K/N] [--exclude PATH]... [--any-name] [--null] [--]\n                 [FILE|FOLDER]...\n\nFormats files in place and prints the names of those that it changed.\n\nA folder stands for the .tf, .tfvars, .tofu, .tftest.hcl, .tfmock.hcl,\n.tfquery.hcl and .tofutest.hcl files in it and below. Files and folders whose\nnames begin with a dot or end with ~, and those named #...#, are passed over.\nWithout an operand it is the current folder. A file that is named is taken if\nit is called like these, or if its name ends with .hcl.\n\n  --check          change nothing; report each file that isn't formatted\n  --diff           change nothing; show what would change; --check may stand\n                   beside it\n  --list           change nothing; print the names of the files that would\n                   change\n  --in-place       write over a file where no new one can be put in its place\n  --sync           have each new file on the disk before the next one is\n                   looked at\n  --quiet          say nothing of the run as a whole: no count of the files\n                   at its end\n  --exclude PATH   pass over what has this name or this path, and all that is\n                   below; may be given again\n  --any-name       take a file that is named whatever it is called\n  --shard K/N      take the K-th of N parts of the files\n  -0, --null       read names, each ended by NUL, from standard input\n  -j, --jobs N     taken, and of no use: files are worked on one after the\n                   other\n  -h, --help       print this\n  --version        print the version\n\nStatus: 0  all files are formatted, or are now\n        2  a file was refused, or the command line is wrong\n        3  with --check, --diff or --list: a file isn't formatted, and nothing\n           is worse\n        4  a file could not be read or written\n"

-- THE ROW of these texts, if they request a text, or are no line of this program
abbrev pub usage_row : List Text → Usage → Row
usage_row texts Help = output_row help_text 0
usage_row texts Version = output_row (codes "tffmt-all 0.3.0\n") 0
usage_row texts BadLine = message_row (bad_line_words formatter_words texts) 2
usage_row texts TwoModes =
    message_row (codes "tffmt-all: error: --list takes neither --check nor --diff beside it\n") 2
usage_row texts BadPart =
    message_row (codes "tffmt-all: error: --shard takes K/N, with K from 1 to N, at most 99999\n") 2
usage_row texts BadJobs =
    message_row (codes "tffmt-all: error: --jobs takes a number from 1 to 9999\n") 2
usage_row texts NamesTwice =
    message_row (codes "tffmt-all: error: --null takes no names on the command line\n") 2
usage_row texts OutOfMemory = out_of_memory formatter

-- ---- all runs

-- the end of a run with this request: its names are on its line, or standard input has these bytes
abbrev pub EndsFor : Bool → List Text → Result Request Usage → Bool → Option (List ℕ) → State
    → State → End → Type 0
EndsFor shows texts (Ok asking) failed input before after end =
    EndsBy (SaysOnly (out_of_memory formatter) before after end)
    (SaysOnly (fails_with formatter (codes "read failed")) before after end)
    (λ paths. Formats shows asking.given.quiet asking.mode (selection_of asking) paths before
    after end)
    asking.given.null asking.given.names failed input
EndsFor shows texts (Err usage) failed input before after end =
    SaysOnly (usage_row texts usage) before after end

-- THE END of a run with these words, if standard input has these bytes: that of the request in the words, or memory ran
-- out before a file was looked at
abbrev pub IsEnd : Bool → List (List ℕ) → Bool → Option (List ℕ) → State → State → End → Type 0
IsEnd shows words failed input before after end =
    SaysOnly (out_of_memory formatter) before after end
    ⊎ EndsFor shows (texts_in (codes "tffmt-all") words) (request_of_words words) failed input
    before after end
