-- The parts of a report.
use Rattle.std.specs.Prelude.{ℕ, ◌++◌, List, codes, decimal, length}
use Rattle.std.specs.List.{flat_map}
use Rattle.command_line.specs.Rows.{line}
use Rattle.hcl_source.specs.declared.fault.Position.{Position}
use Rattle.rule_set.specs.Rules.{rule_name, severity_text}
use Rattle.rule_set.specs.declared.rule.Rule.{Rule}
use Rattle.rule_set.specs.declared.rule.Severity.{Severity}
use Rattle.tf_rules.specs.declared.issue.Issue.{Issue}
use Rattle.tfrules_command.specs.Report.{issue_count, issue_line}
use Rattle.tfrules_command.specs.declared.report.LineParts.{LineParts}

-- `: Severity - `
abbrev pub opening_words : Severity → List ℕ
opening_words s = codes ": " ++ (severity_text s ++ codes " - ")

-- ` (rule)`, to the end of the line
abbrev pub closing_words : Rule → List ℕ
closing_words rule = codes " (" ++ (rule_name rule ++ line (codes ")"))

-- `:LINE:COLUMN`
abbrev pub place_words : Position → List ℕ
place_words at = codes ":" ++ (decimal at.line ++ (codes ":" ++ decimal at.column))

-- the line of a message in a frame
abbrev pub with_line_parts : LineParts → List ℕ → List ℕ
with_line_parts f message = f.name.now ++ (f.place.now ++ (f.before_message.now ++ (message ++ f.after_message.now)))

abbrev pub lines_of_report : List (List ℕ) → List Issue → List ℕ
lines_of_report names issues = issue_count (length issues) ++ flat_map (issue_line names) issues
