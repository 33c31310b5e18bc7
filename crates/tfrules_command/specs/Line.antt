-- The request in the words of a `tfrules` line. clap reads them as a simple command: its own definitions of the matches
-- and the faults of a line decide. The values of its options are our own choice.
use Rattle.std.specs.Prelude.{◌≡◌, ℕ, ◌==◌, ◌++◌, Bool, true, false, List, [], ◌∷◌, Option, Some, None, Result, Ok, Err, codes, filter, fold, length, nat_lt, unwrap_or, if◌then◌else◌}
use Rattle.std.specs.List.{list_all, list_any, slice_split}
use Rattle.std.specs.Str.{bytes_eq}
use Rattle.command_line.specs.Arguments.{flag_rule, option_rule, unless_fault, usage_by}
use Rattle.command_line.specs.Flags.{is_set}
use Rattle.clap.specs.Words.{App, Row, Text, all_of, fault_of, first_of, matches_of, new_app}
use Rattle.clap.specs.Words as clap
use Rattle.clap.specs.Words.{new_rule, with_rule}
use Rattle.clap.specs.declared.builder.ArgAction.TheVariants.{Append}
use Rattle.tf_rules.specs.Issues.{Asked}
use Rattle.rule_set.specs.Rules.{all_rules, is_recommended, rule_name}
use Rattle.rule_set.specs.declared.rule.Rule.{Rule}
use Rattle.rule_set.specs.declared.rule.Severity.{Severity}
use Rattle.rule_set.specs.declared.rule.Severity.TheVariants.{Notice, Warning, Error}
use Rattle.tf_rules.specs.declared.naming.Naming.{Naming}
use Rattle.tf_rules.specs.declared.naming.Naming.TheVariants.{SnakeCase, MixedSnakeCase}
use Rattle.tfrules_command.specs.declared.usage.Usage.{Usage}
use Rattle.tfrules_command.specs.declared.usage.Usage.TheVariants.{Help, BadLine, UnknownRule, BadNaming, BadSeverity, TooManyFiles, OutOfMemory}

-- the request of a line: rules and naming, the severity from which on an issue fails the run, whether none does, and
-- the names of the files, each once, in the order of the line
pub record Request : Type 0 where
  pub asked : Asked
  pub minimum : Severity
  pub force : Bool
  pub files : List Text

-- ---- the command

-- one file or more
abbrev pub file_rule : clap.Rule
file_rule = record (new_rule (codes "file")) { action = Some Append; required = true }

-- `tfrules [--rules LIST] [--naming NAMING] [--minimum-failure-severity SEVERITY] [--force] [--help] FILE...`
abbrev pub tfrules : App
tfrules =
    fold with_rule (new_app (codes "tfrules"))
    (option_rule (codes "rules") ∷ option_rule (codes "naming")
    ∷ option_rule (codes "minimum-failure-severity") ∷ flag_rule (codes "force") ∷ file_rule ∷ [])

-- ---- the values of the options

abbrev pub has_name : Text → Rule → Bool
has_name text rule = bytes_eq (rule_name rule) text

-- the rules of these names, if each is a rule's
abbrev pub rules_named : List Text → Option (List Rule)
rules_named names =
    if list_all (λ name. list_any (has_name name) all_rules) names
    then Some (filter (λ rule. list_any (λ name. has_name name rule) names) all_rules)
    else None

-- `default`, `all`, or names of rules with commas between them
abbrev pub rules_asked : Text → Option (List Rule)
rules_asked text =
    if bytes_eq text (codes "default") then Some (filter is_recommended all_rules)
    else if bytes_eq text (codes "all") then Some all_rules
    else rules_named (slice_split (λ b. b == 44) text)

abbrev pub naming_of_text : Text → Option Naming
naming_of_text text =
    if bytes_eq text (codes "snake_case") then Some SnakeCase
    else if bytes_eq text (codes "mixed_snake_case") then Some MixedSnakeCase
    else None

abbrev pub severity_of_text : Text → Option Severity
severity_of_text text =
    if bytes_eq text (codes "error") then Some Error
    else if bytes_eq text (codes "warning") then Some Warning
    else if bytes_eq text (codes "notice") then Some Notice
    else None

-- ---- the names of files

abbrev pub with_name : List Text → Text → List Text
with_name names name =
    if list_any (λ known. bytes_eq known name) names then names else names ++ name ∷ []

-- each once, in the order of their first mention
abbrev pub each_once : List Text → List Text
each_once names = fold with_name [] names

-- a name is not among those after it
abbrev pub NoneTwice : List Text → Type 0
NoneTwice [] = Unit {0}
NoneTwice (n ∷ ns) = (list_any (bytes_eq n) ns ≡ false) × NoneTwice ns

abbrev pub max_files : ℕ
max_files = 256

-- ---- the line

-- the value of an option, or the default
abbrev pub value_or : Text → Text → List Row → Text
value_or default id rows = unwrap_or (first_of id rows) default

-- the rules are checked first, then the naming, the severity, and the number of files as given
abbrev pub asking_for : Bool → List Text → Option (List Rule) → Option Naming → Option Severity
    → Result Request Usage
asking_for force files None naming minimum = Err UnknownRule
asking_for force files (Some rules) None minimum = Err BadNaming
asking_for force files (Some rules) (Some naming) None = Err BadSeverity
asking_for force files (Some rules) (Some naming) (Some minimum) =
    if nat_lt max_files (length files) then Err TooManyFiles
    else Ok (record {
      asked = record { rules = rules; naming = naming };
      minimum = minimum;
      force = force;
      files = each_once files;
    })

-- without a file it is a bad line
abbrev pub request_with : List Row → Option (List Text) → Result Request Usage
request_with rows (Some (f ∷ fs)) =
    asking_for (is_set (codes "force") rows) (f
    ∷ fs) (rules_asked (value_or (codes "default") (codes "rules") rows))
    (naming_of_text (value_or (codes "snake_case") (codes "naming") rows))
    (severity_of_text (value_or (codes "notice") (codes "minimum-failure-severity") rows))
request_with rows _ = Err BadLine

abbrev pub request_of_rows : List Row → Result Request Usage
request_of_rows rows = request_with rows (all_of (codes "file") rows)

-- THE OPTIONS of a line, unless memory runs out
abbrev pub options_of : List Text → Result Request Usage
options_of words =
    unless_fault (usage_by OutOfMemory Help BadLine) (fault_of tfrules words)
    (request_of_rows (matches_of tfrules words))
