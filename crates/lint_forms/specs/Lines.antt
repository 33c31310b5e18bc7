-- Commands for the log of a GitHub workflow, one per line.
use Rattle.std.specs.Prelude.{ℕ, ◌++◌, ◌==◌, List, chars, codes, decimal, encode_utf8, flat_map, if◌then◌else◌}
use Rattle.lint_forms.specs.Remarks.{Remark}
use Rattle.lint_forms.specs.Words.{rule_id, severity_of, by_severity}
use Rattle.lint_forms.specs.declared.subject.Subject.{Subject}

abbrev pub command_word : Subject → List ℕ
command_word subject =
    by_severity (codes "notice") (codes "warning") (codes "error") (severity_of subject)

-- a character of a message, escaped if it would end the message
abbrev pub message_char : ℕ → List ℕ
message_char c =
    if c == 37 then codes "%25" else if c == 13 then codes "%0D" else if c == 10 then codes "%0A"
    else encode_utf8 c

-- a character of a value before it
abbrev pub property_char : ℕ → List ℕ
property_char c = if c == 58 then codes "%3A" else if c == 44 then codes "%2C" else message_char c

abbrev pub line_head : Remark → List ℕ
line_head r =
    codes "::"
    ++ (command_word r.subject
    ++ (codes " file="
    ++ (flat_map property_char (chars r.file) ++ (codes ",line=" ++ decimal r.line))))

abbrev pub line_tail : Remark → List ℕ
line_tail r =
    codes ",col="
    ++ (decimal r.column
    ++ (codes ",title="
    ++ (rule_id r.subject ++ (codes "::" ++ (flat_map message_char (chars r.text) ++ codes "\n")))))

-- `::WORD file=FILE,line=LINE,col=COLUMN,title=RULE::TEXT`
abbrev pub github_line : Remark → List ℕ
github_line r = line_head r ++ line_tail r
