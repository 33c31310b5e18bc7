-- The report of GitLab's code quality.
use Rattle.std.specs.Prelude.{List, ℕ, codes, decimal}
use Rattle.json.specs.Json.{Json, member, no_members, number, object, string}
use Rattle.lint_forms.specs.Marks.{MarkedRemark}
use Rattle.lint_forms.specs.Remarks.{Remark}
use Rattle.lint_forms.specs.Words.{quality_word, rule_id}

abbrev pub spot_json : Remark → Json
spot_json r =
    object (member (codes "path") (string r.file) (member (codes "lines") (object (member (codes
    "begin") (number (decimal r.line)) no_members)) no_members))

-- an entry by a rule of this name and severity
abbrev pub quality_by : List ℕ → List ℕ → MarkedRemark → Json
quality_by name severity e =
    object (member (codes "description") (string e.said.text) (member (codes "check_name") (string
    name) (member (codes "fingerprint") (string e.mark)
    (member (codes "severity") (string severity)
    (member (codes "location") (spot_json e.said) no_members)))))

-- AN ENTRY
abbrev pub quality_json : MarkedRemark → Json
quality_json e = quality_by (rule_id e.said.subject) (quality_word e.said.subject) e
