-- The end of a run of `tfrules-all`. Its texts and statuses are our own choice.
use Rattle.std.specs.Prelude.{◌≡◌, ◌⊎◌, ◌==◌, ◌&&◌, ◌||◌, ℕ, Bool, true, false, List, [], ◌∷◌, ◌++◌, Option, Some, None, Result, Ok, Err, codes, flat_map, is_some, map, nat_lt, unwrap_or, if◌then◌else◌}
use Rattle.clap.specs.Words.{Text, first_of, matches_of}
use Rattle.command_line.specs.Rows.{End, Row, Shows, TookBy, Writer, error_line, fails_with, message_row, out_of_memory, output_row, write_failed}
use Rattle.file_tree.specs.Files.{Faults, Files, Name}
use Rattle.file_tree.specs.Quotes.{in_quotes}
use Rattle.file_tree.specs.Seen.{Sees, all_found}
use Rattle.file_tree.specs.declared.walk.Found.{Found}
use Rattle.file_tree.specs.declared.walk.ListedFolder.{ListedFolder}
use Rattle.lint_forms.specs.Forms.{form_foot, form_head}
use Rattle.lint_forms.specs.Remarks.{Remark}
use Rattle.lint_forms.specs.declared.kind.Form.{Form}
use Rattle.module_find.specs.Modules.{AreFolders, AreModules, AreTold, lost_of}
use Rattle.module_config.specs.Configs.{Configures}
use Rattle.module_config.specs.Refusals.{configured_refusals}
use Rattle.module_config.specs.Words.{configured_words, unlinted_line}
use Rattle.module_config.specs.declared.configure.Configured.{Configured}
use Rattle.module_find.specs.declared.module.Module.{Module}
use Rattle.module_config.specs.Lists.{unknown_in}
use Rattle.tree_words.specs.Ends.{EndsBy}
use Rattle.tree_words.specs.Shards.{picked_of}
use Rattle.tree_words.specs.Line.{texts_in}
use Rattle.tree_words.specs.WrongWords.{bad_line_words}
use Rattle.tree_words.specs.declared.shard.Shard.{Shard}
use Rattle.module_find.specs.Faults.{fault_lines, refusal_in}
use Rattle.module_find.specs.KeptRefusals.{kept_remark, refusal_remark}
use Rattle.tree_lint.specs.Numbers.{summary_line}
use Rattle.module_find.specs.Refusals.{tree_linter}
use Rattle.tree_lint.specs.Runs.{IsLintRun, worse_status}
use Rattle.tree_lint.specs.declared.counts.Counts.{Counts}
use Rattle.module_find.specs.declared.kept.KeptRefusals.{KeptRefusals}
use Rattle.tree_lint.specs.declared.run.RunEnd.{RunEnd}
use Rattle.tree_lint.specs.declared.written.Manner.{Manner}
use Rattle.tree_lint.specs.declared.written.Terminals.{Terminals}
use Rattle.lint_command.specs.Explained.{explanation_of, rule_list}
use Rattle.lint_command.specs.Line.{Request, Job, request_of_words, tfrules_all}
use Rattle.lint_command.specs.LinterWords.{linter_words}
use Rattle.lint_command.specs.declared.usage.Usage.{Usage}
use Rattle.lint_command.specs.declared.usage.Usage.TheVariants.{Help, Version, ListRules, Explain, BadLine, UnknownRule, UnknownExplained, NoRuleLeft, BadNaming, BadSeverity, BadPart, BadForm, BadJobs, NamesTwice, OutOfMemory}

-- ---- what is linted

-- the modules of the files that these paths stand for, as far as the part takes them, and the names that can't be
-- looked at: each is reported because a call of the device failed, or because of its name
pub record Collects (files : Files) (shard : Option Shard) (paths : List Name) (was is : Faults)
    (modules : List Module) (faults : List Found) : Type 0 where
  pub named : List Found  -- the entries found for the paths themselves
  pub looked : List ListedFolder  -- the entries found in each folder of the walk
  pub walked : Faults  -- the faults of calls up to the end of the walk
  pub sees : Sees files paths was walked named looked
  pub folders : List Found
  pub stand : AreFolders (all_found named looked) folders
  pub told : List Found  -- the reported names of their folders
  pub are : AreModules files looked (picked_of shard folders) modules told walked is
  pub all : AreTold (picked_of shard (flat_map lost_of (all_found named looked)) ++ told) faults

-- ---- messages

-- a writer took the text after what it took before, unless it had failed before
abbrev pub Then : Bool → Writer → Writer → List ℕ → Type 0
Then true between last text = last ≡ between
Then false between last text =
    (last.before ≡ between.before) × TookBy last.failed between.after last.after text

-- how many issues there are, in how many modules, and how many modules aren't linted; if there are such, the line for
-- no module is left out
abbrev pub count_lines : ℕ → Counts → List ℕ
count_lines unlinted counts =
    (if counts.modules == 0 && nat_lt 0 unlinted then [] else summary_line counts)
    ++ unlinted_line unlinted

-- the lines of the counts, unless the run is quiet
abbrev pub summary : Bool → ℕ → Counts → List ℕ
summary quiet unlinted counts = if quiet then [] else count_lines unlinted counts

-- the last message: the names that can't be looked at, the bad files `.tfrules`, and the counts; or that a write failed
abbrev pub last_words : Bool → Bool → List Found → Configured → Counts → List ℕ
last_words quiet out_failed faults config counts =
    if out_failed then write_failed tree_linter
    else flat_map fault_lines faults
    ++ (configured_words config ++ summary quiet config.unlinted counts)

-- the status of a run by the names that can't be looked at and the number of modules that aren't linted
abbrev pub fault_status : List Found → ℕ → ℕ
fault_status [] unlinted = if unlinted == 0 then 0 else 1
fault_status (f ∷ faults) unlinted = 1

-- ---- forms

abbrev pub version : List ℕ
version = codes "0.3.0"

-- the head of the output, before the issues of all modules
abbrev pub head_of : Option Form → List ℕ
head_of None = []
head_of (Some form) = form_head form version

-- why modules aren't linted, as remarks: the kept refusals, the names that can't be looked at, and the bad files
-- `.tfrules`
abbrev pub refused_remarks : KeptRefusals → List Found → Configured → List Remark
refused_remarks kept faults config =
    map kept_remark kept.refusals.items
    ++ map refusal_remark (flat_map refusal_in faults ++ configured_refusals config)

-- the foot of the output, after the issues, in a run with this status
abbrev pub IsFoot : Option Form → ℕ → RunEnd → List Found → Configured → List ℕ → Type 0
IsFoot None status ran faults config text = text ≡ []
IsFoot (Some form) status ran faults config text =
    (ran.kept.is_whole ≡ true)
    × (text ≡ form_foot form status ran.has_output (refused_remarks ran.kept faults config))

-- ---- the end of a run whose modules were linted

-- a write failed before
abbrev pub is_cut : End → Bool
is_cut between = between.out.failed || between.err.failed

-- a write failed before, and only that is reported
pub record EndsCut (between end : End) : Type 0 where
  pub cut : is_cut between ≡ true
  pub output : end.out ≡ between.out
  pub message : Then between.err.failed between.err end.err (write_failed tree_linter)
  pub exit : end.status ≡ 1

-- memory ran out for the foot of a form
pub record EndsLost (form : Option Form) (between end : End) : Type 0 where
  pub forms : is_some form ≡ true
  pub whole : is_cut between ≡ false
  pub output : end.out ≡ between.out
  pub message : Then false between.err end.err (error_line tree_linter (codes "out of memory"))
  pub exit : end.status ≡ 1

-- the foot is written, and the last message shown. Names that can't be looked at, and modules that aren't linted, give
-- status 1
pub record EndsWhole (form : Option Form) (quiet : Bool) (config : Configured) (faults : List Found)
    (ran : RunEnd) (between end : End) : Type 0 where
  pub whole : is_cut between ≡ false
  pub foot : List ℕ
  pub is : IsFoot form (worse_status between.status (fault_status faults config.unlinted)) ran
      faults config foot
  pub output : Then false between.out end.out foot
  pub message : Then false between.err end.err
      (last_words quiet end.out.failed faults config ran.counts)
  pub exit : end.status
      ≡ (if end.out.failed || end.err.failed then 1
      else worse_status between.status (fault_status faults config.unlinted))

-- EACH MODULE IS LINTED whose options are known, by its own options, and the run ends
pub record RunsThen (files : Files) (manner : Manner) (quiet : Bool) (config : Configured)
    (faults : List Found) (was is : Faults) (end : End) : Type 0 where
  pub between : End  -- the end of the modules' run
  pub ran : RunEnd
  pub linted : IsLintRun files manner (head_of manner.form) config.governed.items was is between ran
  pub ends : EndsCut between end
      ⊎ (EndsLost manner.form between end
      ⊎ EndsWhole manner.form quiet config faults ran between end)

-- these modules are linted, and the names that can't be looked at are these
pub record LintsModules (terminals : Terminals) (job : Job) (modules : List Module)
    (faults : List Found) (files : Files) (was is : Faults) (end : End) : Type 0 where
  pub config : Configured
  pub looked : Faults  -- the faults of calls before the first module is linted
  pub configures : Configures files job.given.said job.given.reads modules was looked config
  pub runs : RunsThen files (record {
    form = job.form;
    terminals = terminals;
  }) job.quiet config faults looked is end

-- THE MODULES ARE LINTED that these paths stand for, by a device with these faults before and after
pub record Lints (terminals : Terminals) (job : Job) (paths : List Name) (files : Files)
    (was is : Faults) (end : End) : Type 0 where
  pub modules : List Module
  pub faults : List Found
  pub walked : Faults  -- the faults of calls before the search for files `.tfrules`
  pub collects : Collects files job.shard paths was walked modules faults
  pub lints : LintsModules terminals job modules faults files walked is end

-- ---- runs that look at no file

abbrev pub help_text : List ℕ
help_text =
    codes
    "usage: tfrules-all [--rules LIST] [--naming NAMING]\n                   [--minimum-failure-severity SEVERITY] [--force]\n                   [--check-comments] [--no-config] [--format FORM] [--quiet]\n                   [--shard K/N] [--null] [--] [FILE|FOLDER]...\n       tfrules-all --list-rules\n       tfrules-all --explain RULE\n\nLints the modules of folders, each by itself, as tfrules lints its files.\n\nA module is the .tf and .tofu files of one folder. A file stands for its\nfolder, also one that was deleted while the folder is there; a folder for\nitself and all below. Files and folders whose names begin with a dot or end\nwith ~, and those named #...#, are passed over. Without an operand it is the\ncurrent folder.\n\nOptions that the line doesn't have come from the nearest .tfrules, in the folder\nof a module or above it up to the top of the repository: one a line, of the\nfirst five below.\n\n  --rules LIST     default, all or names of rules, with commas between them; a\n                   dash before one takes its rules away: all,-terraform_...\n  --naming NAMING  snake_case or mixed_snake_case\n  --minimum-failure-severity SEVERITY\n                   error, warning or notice: from which severity on an issue\n                   fails the run\n  --force          nothing that is found fails the run\n  --check-comments report comments that are meant to silence a rule and don't:\n                   those that name no rule, and tflint-ignore-file\n  --no-config      read no file .tfrules\n  --format FORM    text; or json (TFLint's), sarif, checkstyle, junit, gitlab or\n                   github: what forges and editors read, of all modules, with\n                   what couldn't be linted\n  --quiet          say nothing of the run as a whole: no count of the issues\n                   at its end\n  --shard K/N      take the K-th of N parts of the folders\n  -0, --null       read names, each ended by NUL, from standard input\n  -j, --jobs N     taken, and of no use: modules are linted one after the\n                   other\n  --list-rules     print each rule with its severity, whether it is a default\n                   one, and what it reports\n  --explain RULE   print that of a rule, why it does, and how to silence it\n  -h, --help       print this\n  --version        print the version\n\nStatus: 0  nothing that is found fails the run\n        1  something couldn't be linted, or the command line is wrong\n        2  an issue fails the run, or a comment that --check-comments\n           reports, and nothing is worse\n"

-- the value of an option in a line
abbrev pub value_in : List Text → List ℕ → Text
value_in texts option = unwrap_or (first_of option (matches_of tfrules_all texts)) []

-- the error for a value with no meaning, which has the value between double quotes
abbrev pub wrong_value : List ℕ → Text → Row
wrong_value front value = fails_with tree_linter (front ++ in_quotes value)

-- THE ROW of these texts, if they request a text, or are no line of this program
abbrev pub usage_row : List Text → Usage → Row
usage_row texts Help = output_row help_text 0
usage_row texts Version = output_row (codes "tfrules-all 0.3.0\n") 0
usage_row texts ListRules = output_row rule_list 0
usage_row texts (Explain rule) = output_row (explanation_of rule) 0
usage_row texts BadLine = message_row (bad_line_words linter_words texts) 1
usage_row texts UnknownRule =
    wrong_value (codes "unknown rule ") (unknown_in (value_in texts (codes "rules")))
usage_row texts UnknownExplained =
    wrong_value (codes "unknown rule ") (value_in texts (codes "explain"))
usage_row texts NoRuleLeft =
    wrong_value (codes "no rule is left by ") (value_in texts (codes "rules"))
usage_row texts BadNaming = wrong_value (codes "unknown naming ") (value_in texts (codes "naming"))
usage_row texts BadSeverity =
    wrong_value (codes "unknown severity ") (value_in texts (codes "minimum-failure-severity"))
usage_row texts BadPart =
    wrong_value (codes "--shard takes K/N, with K from 1 to N, at most 99999, not ")
    (value_in texts (codes "shard"))
usage_row texts BadForm =
    wrong_value
    (codes "--format takes text, json, sarif, checkstyle, junit, gitlab or github, not ")
    (value_in texts (codes "format"))
usage_row texts BadJobs = fails_with tree_linter (codes "--jobs takes a number from 1 to 9999")
usage_row texts NamesTwice =
    fails_with tree_linter (codes "--null takes no names on the command line")
usage_row texts OutOfMemory = out_of_memory tree_linter

-- ---- all runs

-- the end of a run with this request: its names are on its line, or standard input has these bytes. Without options
-- the device isn't called.
abbrev pub EndsFor : Terminals → List Text → Result Request Usage → Bool → Option (List ℕ) → Files
    → Faults → Faults → End → Type 0
EndsFor terminals texts (Ok asking) failed input files was is end =
    EndsBy (Shows tree_linter (out_of_memory tree_linter) end)
    ((is ≡ was) × Shows tree_linter (fails_with tree_linter (codes "read failed")) end)
    (λ paths. Lints terminals asking.job paths files was is end)
    asking.null asking.names failed input
EndsFor terminals texts (Err usage) failed input files was is end =
    (is ≡ was) × (Shows tree_linter (out_of_memory tree_linter) end
    ⊎ Shows tree_linter (usage_row texts usage) end)

-- THE END of a run with these words, over these files, if these outputs are read on terminals, standard input has these
-- bytes, and the device has these faults before and after: that of the request in the words, or memory ran out before a
-- file was looked at
abbrev pub IsEnd : Terminals → List (List ℕ) → Bool → Option (List ℕ) → Files → Faults → Faults
    → End → Type 0
IsEnd terminals words failed input files was is end =
    ((is ≡ was) × Shows tree_linter (out_of_memory tree_linter) end)
    ⊎ EndsFor terminals (texts_in (codes "tfrules-all") words) (request_of_words words) failed
    input files was is end
