-- The form of TFLint's own JSON: its issues, among them comments that are meant to silence a rule and don't, and as its
-- errors the reasons why files are refused. Each range ends where it begins.
use Rattle.std.specs.Prelude.{ℕ, List, codes, decimal}
use Rattle.json.specs.Json.{Json, array, member, no_items, no_members, number, object, string}
use Rattle.lint_forms.specs.Remarks.{Remark}
use Rattle.lint_forms.specs.Words.{rule_id, severity_word}

abbrev pub place_json : ℕ → ℕ → Json
place_json line column =
    object (member (codes "line") (number (decimal line)) (member (codes "column") (number (decimal
    column)) no_members))

abbrev pub range_json : Remark → Json
range_json r =
    object (member (codes "filename") (string r.file) (member (codes "start") (place_json r.line
    r.column) (member (codes "end") (place_json r.line r.column) no_members)))

-- a rule of this name and severity
abbrev pub rule_json : List ℕ → List ℕ → Json
rule_json name severity =
    object (member (codes "name") (string name) (member (codes "severity") (string severity) (member
    (codes "link") (string (codes "")) no_members)))

-- an issue by a rule of this name and severity
abbrev pub issue_by : List ℕ → List ℕ → Remark → Json
issue_by name severity r =
    object (member (codes "rule") (rule_json name severity) (member (codes "message") (string
    r.text)
    (member (codes "range") (range_json r) (member (codes "callers") (array no_items) no_members))))

-- AN ISSUE
abbrev pub issue_json : Remark → Json
issue_json r = issue_by (rule_id r.subject) (severity_word r.subject) r

-- WHY A FILE IS REFUSED
abbrev pub error_json : Remark → Json
error_json r =
    object (member (codes "message") (string r.text) (member (codes "severity") (string (codes
    "error")) (member (codes "range") (range_json r) no_members)))
