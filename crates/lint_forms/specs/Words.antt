-- The words of the forms for rules and severities: those of the programs that read them. A refused file, and a comment
-- that is meant to silence a rule and doesn't, have names of their own in place of a rule's, and are errors.
use Rattle.std.specs.Prelude.{Bool, true, false, List, ℕ, codes}
use Rattle.rule_set.specs.Rules.{rule_name, severity}
use Rattle.rule_set.specs.declared.rule.Severity.{Severity}
use Rattle.rule_set.specs.declared.rule.Severity.TheVariants.{Notice, Warning, Error}
use Rattle.lint_forms.specs.declared.subject.Subject.{Subject}
use Rattle.lint_forms.specs.declared.subject.Subject.TheVariants.{Rule, Comment, Refusal}

-- whether a remark on it is among the issues, and not among the refusals
abbrev pub is_issue : Subject → Bool
is_issue (Rule rule) = true
is_issue Comment = true
is_issue Refusal = false

abbrev pub rule_id : Subject → List ℕ
rule_id (Rule rule) = rule_name rule
rule_id Comment = codes "silencing_comment"
rule_id Refusal = codes "refused_file"

abbrev pub severity_of : Subject → Severity
severity_of (Rule rule) = severity rule
severity_of Comment = Error
severity_of Refusal = Error

-- one of three words for it
abbrev pub by_severity : List ℕ → List ℕ → List ℕ → Severity → List ℕ
by_severity notice warning error Notice = notice
by_severity notice warning error Warning = warning
by_severity notice warning error Error = error

-- TFLint's and Checkstyle's
abbrev pub severity_word : Subject → List ℕ
severity_word subject =
    by_severity (codes "info") (codes "warning") (codes "error") (severity_of subject)

-- SARIF's
abbrev pub level_word : Subject → List ℕ
level_word subject =
    by_severity (codes "note") (codes "warning") (codes "error") (severity_of subject)

-- GitLab's
abbrev pub quality_word : Subject → List ℕ
quality_word subject =
    by_severity (codes "info") (codes "minor") (codes "major") (severity_of subject)
