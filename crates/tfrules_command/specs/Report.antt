-- The report of a run that found issues, and its status. Our own choice, near TFLint's.
use Rattle.std.specs.Prelude.{ℕ, ◌++◌, ◌&&◌, Bool, not, List, [], ◌∷◌, codes, decimal, get_or, length, nat_le, if◌then◌else◌}
use Rattle.std.specs.List.{flat_map, list_any}
use Rattle.command_line.specs.Rows.{Row, line}
use Rattle.rule_set.specs.Rules.{rule_name, severity, severity_text}
use Rattle.tf_rules.specs.declared.issue.Issue.{Issue}
use Rattle.rule_set.specs.declared.rule.Severity.{Severity}
use Rattle.rule_set.specs.declared.rule.Severity.TheVariants.{Notice, Warning, Error}
use Rattle.tfrules_command.specs.Line.{Request}

-- `FILE:LINE:COLUMN: Severity - message (rule)`
abbrev pub issue_line : List (List ℕ) → Issue → List ℕ
issue_line names i =
    get_or names i.file []
    ++ (codes ":" ++ (decimal i.at.line ++ (codes ":" ++ (decimal i.at.column ++ (codes ": "
    ++ (severity_text (severity i.rule)
    ++ (codes " - " ++ (i.message ++ (codes " (" ++ (rule_name i.rule ++ line (codes ")")))))))))))

-- how many issues there are, and an empty line
abbrev pub issue_count : ℕ → List ℕ
issue_count count = decimal count ++ line (line (codes " issue(s) found:"))

-- nothing without issues; otherwise their number, and the text for each
abbrev pub report_by : (Issue → List ℕ) → List Issue → List ℕ
report_by said [] = []
report_by said (i ∷ is) = issue_count (length (i ∷ is)) ++ flat_map said (i ∷ is)

-- a line for each
abbrev pub report : List (List ℕ) → List Issue → List ℕ
report names issues = report_by (issue_line names) issues

-- ---- the status

abbrev pub weight : Severity → ℕ
weight Notice = 0
weight Warning = 1
weight Error = 2

-- the issue is as severe as this, or more
abbrev pub weighs : Severity → Issue → Bool
weighs minimum i = nat_le (weight minimum) (weight (severity i.rule))

abbrev pub status : Request → List Issue → ℕ
status asking issues = if not asking.force && list_any (weighs asking.minimum) issues then 2 else 0

-- the row of a module with these issues
abbrev pub report_row : Request → List Issue → Row
report_row asking issues =
    record { out = report asking.files issues; err = []; status = status asking issues }
