-- The request in the words of a `tfrules-all` line. clap reads the words that are UTF-8 as a simple command: its own
-- definitions of the matches and the faults of a line decide. The values of the options are our own choice, and so is
-- that all other words are names.
use Rattle.std.specs.Prelude.{ℕ, ◌==◌, ◌||◌, not, Bool, true, false, List, [], ◌∷◌, ◌++◌, Option, Some, None, Result, Ok, Err, codes, find, fold, length, option_map, if◌then◌else◌}
use Rattle.std.specs.Option.{option_map_or}
use Rattle.std.specs.Str.{bytes_eq}
use Rattle.clap.specs.Words.{App, Row, Text, fault_of, first_of, matches_of, new_app, with_rule}
use Rattle.command_line.specs.Arguments.{option_rule, unless_fault, usage_by}
use Rattle.file_tree.specs.Files.{Name}
use Rattle.module_config.specs.Lines.{Options}
use Rattle.lint_forms.specs.declared.kind.Form.{Form}
use Rattle.lint_forms.specs.declared.kind.Form.TheVariants.{Json, Sarif, Checkstyle, Junit, Gitlab, Github}
use Rattle.module_config.specs.Lists.{rules_in}
use Rattle.module_config.specs.declared.list_fault.ListFault.{ListFault}
use Rattle.module_config.specs.declared.list_fault.ListFault.TheVariants as list
use Rattle.rule_set.specs.Rules.{all_rules, rule_name}
use Rattle.rule_set.specs.declared.rule.Rule.{Rule}
use Rattle.rule_set.specs.declared.rule.Severity.{Severity}
use Rattle.tf_rules.specs.declared.naming.Naming.{Naming}
use Rattle.tfrules_command.specs.Line.{naming_of_text, severity_of_text}
use Rattle.tree_words.specs.Line.{are_jobs_good, count_rule, file_rule, is_given, jobs_rule, null_rule, others_in, shard_given, texts_in, texts_of}
use Rattle.tree_words.specs.declared.shard.Shard.{Shard}
use Rattle.lint_command.specs.declared.usage.Usage.{Usage}
use Rattle.lint_command.specs.declared.usage.Usage.TheVariants.{Help, Version, ListRules, Explain, BadLine, UnknownRule, UnknownExplained, NoRuleLeft, BadNaming, BadSeverity, BadPart, BadForm, BadJobs, NamesTwice, OutOfMemory}

-- the options by which modules are linted: those of the line, and whether files `.tfrules` are read for the others
pub record Given : Type 0 where
  pub said : Options
  pub reads : Bool

-- what the run is to do: by these options, whether the message about the run as a whole is left out, the part of the
-- folders, and the form, none for text
pub record Job : Type 0 where
  pub given : Given
  pub quiet : Bool
  pub shard : Option Shard
  pub form : Option Form

-- the request of a line: what the run is to do, whether names are read from standard input, and the names of the line
pub record Request : Type 0 where
  pub job : Job
  pub null : Bool
  pub names : List Name

-- ---- the command

-- `tfrules-all [--rules LIST] [--naming NAMING] [--minimum-failure-severity SEVERITY] [--force] [--check-comments]
-- [--no-config] [--format FORM] [--quiet] [--version] [--null] [--shard K/N] [--jobs NUMBER] [--list-rules]
-- [--explain RULE] [--] [FILE|FOLDER]...`
abbrev pub tfrules_all : App
tfrules_all =
    fold with_rule (new_app (codes "tfrules-all"))
    (option_rule (codes "rules") ∷ option_rule (codes "naming")
    ∷ option_rule (codes "minimum-failure-severity") ∷ count_rule (codes "force")
    ∷ count_rule (codes "check-comments") ∷ count_rule (codes "no-config")
    ∷ option_rule (codes "format") ∷ count_rule (codes "quiet") ∷ count_rule (codes "version")
    ∷ null_rule ∷ option_rule (codes "shard") ∷ jobs_rule ∷ count_rule (codes "list-rules")
    ∷ option_rule (codes "explain") ∷ file_rule ∷ [])

-- ---- the options by which modules are linted

abbrev pub rules_taken : Option (Result (List Rule) ListFault) → Result (Option (List Rule)) Usage
rules_taken None = Ok None
rules_taken (Some (Ok rules)) = Ok (Some rules)
rules_taken (Some (Err list.UnknownRule)) = Err UnknownRule
rules_taken (Some (Err list.NoneLeft)) = Err NoRuleLeft

-- the value of an option's text, if the line has one, or the usage for a text with no meaning
abbrev pub value_or_usage : {A : Type 0} → Usage → Option (Option A) → Result (Option A) Usage
value_or_usage usage None = Ok None
value_or_usage usage (Some None) = Err usage
value_or_usage usage (Some (Some a)) = Ok (Some a)

abbrev pub given_by : Result (Option (List Rule)) Usage → Result (Option Naming) Usage
    → Result (Option Severity) Usage → Bool → Bool → Bool → Result Given Usage
given_by (Err usage) naming minimum force checks reads = Err usage
given_by (Ok rules) (Err usage) minimum force checks reads = Err usage
given_by (Ok rules) (Ok naming) (Err usage) force checks reads = Err usage
given_by (Ok rules) (Ok naming) (Ok minimum) force checks reads =
    Ok (record {
      said = record {
        rules = rules;
        naming = naming;
        minimum = minimum;
        force = force;
        checks = checks;
      };
      reads = reads;
    })

abbrev pub given_of_rows : List Row → Result Given Usage
given_of_rows rows =
    given_by (rules_taken (option_map rules_in (first_of (codes "rules") rows)))
    (value_or_usage BadNaming (option_map naming_of_text (first_of (codes "naming") rows)))
    (value_or_usage BadSeverity
    (option_map severity_of_text (first_of (codes "minimum-failure-severity") rows)))
    (is_given (codes "force") rows) (is_given (codes "check-comments") rows)
    (not (is_given (codes "no-config") rows))

-- ---- the form

-- `text` is no form
abbrev pub form_of_text : Text → Option (Option Form)
form_of_text text =
    if bytes_eq text (codes "text") then Some None
    else if bytes_eq text (codes "json") then Some (Some Json)
    else if bytes_eq text (codes "sarif") then Some (Some Sarif)
    else if bytes_eq text (codes "checkstyle") then Some (Some Checkstyle)
    else if bytes_eq text (codes "junit") then Some (Some Junit)
    else if bytes_eq text (codes "gitlab") then Some (Some Gitlab)
    else if bytes_eq text (codes "github") then Some (Some Github)
    else None

abbrev pub form_given : Option Text → Option (Option Form)
form_given None = Some None
form_given (Some text) = form_of_text text

-- ---- the line

-- names come from the line or from standard input, and not from both
abbrev pub request_by : Result Given Usage → Bool → Option (Option Shard) → Option (Option Form)
    → Bool → Bool → Bool → List Name → Result Request Usage
request_by (Err usage) quiet shard form are_jobs is_good null names = Err usage
request_by (Ok given) quiet None form are_jobs is_good null names = Err BadPart
request_by (Ok given) quiet (Some shard) None are_jobs is_good null names = Err BadForm
request_by (Ok given) quiet (Some shard) (Some form) false is_good null names = Err BadJobs
request_by (Ok given) quiet (Some shard) (Some form) true false null names = Err NamesTwice
request_by (Ok given) quiet (Some shard) (Some form) true true null names =
    Ok (record {
      job = record { given = given; quiet = quiet; shard = shard; form = form };
      null = null;
      names = names;
    })

abbrev pub request_with : List Row → List Name → Result Request Usage
request_with rows names =
    request_by (given_of_rows rows) (is_given (codes "quiet") rows)
    (shard_given (first_of (codes "shard") rows)) (form_given (first_of (codes "format") rows))
    (are_jobs_good rows) (not (is_given (codes "null") rows) || length names == 0)
    (is_given (codes "null") rows) names

-- the usage for the rule that `--explain` names
abbrev pub explain_request : Text → Usage
explain_request name =
    option_map_or Explain (find (λ rule. bytes_eq (rule_name rule) name) all_rules) UnknownExplained

-- the text that a line requests; the rest of such a line makes no difference
abbrev pub text_requested : List Row → Option Usage
text_requested rows =
    if is_given (codes "version") rows then Some Version
    else (if is_given (codes "list-rules") rows then Some ListRules
    else option_map explain_request (first_of (codes "explain") rows))

-- the names of a line are those that clap finds, and then the words that aren't UTF-8
abbrev pub request_of_rows : List Name → List Row → Result Request Usage
request_of_rows others rows =
    option_map_or Err (text_requested rows) (request_with rows (texts_of (codes "file") rows
    ++ others))

-- the request in these texts, and these other words, which are names, unless memory runs out
abbrev pub request_of_texts : List Text → List Name → Result Request Usage
request_of_texts texts others =
    unless_fault (usage_by OutOfMemory Help BadLine) (fault_of tfrules_all texts)
    (request_of_rows others (matches_of tfrules_all texts))

-- whether the request needs names from standard input
abbrev pub reads_names : Result Request Usage → Bool
reads_names (Ok asking) = asking.null
reads_names (Err usage) = false

-- THE REQUEST in the words, the program's name first, unless memory runs out
abbrev pub request_of_words : List (List ℕ) → Result Request Usage
request_of_words words = request_of_texts (texts_in (codes "tfrules-all") words) (others_in words)
