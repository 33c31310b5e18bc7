-- The request in the code's options, as the definitions have it.
use Rattle.std.specs.Prelude.{◌==◌, ◌||◌, not, ℕ, Bool, List, Option, Result, Ok, Err, map, option_map}
use Rattle.module_config.specs.Options.{options_of}
use Rattle.rule_set.specs.RuleSets.{rules_of}
use Rattle.rule_set.specs.declared.rule.Rule.{Rule}
use Rattle.rule_set.specs.declared.rule_set.RuleSet.{RuleSet}
use Rattle.lint_command.specs.Line.{Request, Given, Job}
use Rattle.lint_command.specs.declared.options.Given as code_given
use Rattle.lint_command.specs.declared.options.Job as code
use Rattle.lint_command.specs.declared.options.LintOptions.{LintOptions}
use Rattle.lint_command.specs.declared.usage.Usage.{Usage}

abbrev pub rules_view : Result (Option RuleSet) Usage → Result (Option (List Rule)) Usage
rules_view (Ok rules) = Ok (option_map rules_of rules)
rules_view (Err usage) = Err usage

abbrev pub given_of : code_given.Given → Given
given_of given = record { said = options_of given.said; reads = given.reads }

abbrev pub given_in : Result code_given.Given Usage → Result Given Usage
given_in (Ok given) = Ok (given_of given)
given_in (Err usage) = Err usage

abbrev pub job_of : code.Job → Job
job_of job =
    record { given = given_of job.given; quiet = job.quiet; shard = job.shard; form = job.form }

abbrev pub request_of : LintOptions → Request
request_of o =
    record { job = job_of o.job; null = o.null; names = map (λ name. name.now) o.names.items }

abbrev pub result_request : Result LintOptions Usage → Result Request Usage
result_request (Ok o) = Ok (request_of o)
result_request (Err usage) = Err usage

-- names come from the line or from standard input, and not from both
abbrev pub is_good : Bool → ℕ → Bool
is_good null names = not null || names == 0
