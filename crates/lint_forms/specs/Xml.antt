-- XML in the forms of Checkstyle and of JUnit.
use Rattle.std.specs.Prelude.{ℕ, Bool, true, false, ◌++◌, ◌==◌, ◌||◌, not, List, [], ◌∷◌, chars, codes, decimal, encode_utf8, filter, flat_map, length, nat_lt, if◌then◌else◌}
use Rattle.rule_set.specs.Rules.{severity_text}
use Rattle.lint_forms.specs.Remarks.{Remark}
use Rattle.lint_forms.specs.Words.{is_issue, rule_id, severity_of, severity_word}
use Rattle.lint_forms.specs.declared.subject.Subject.{Subject}

-- ---- texts

-- characters that XML can't have become U+FFFD: most control characters, U+FFFE and U+FFFF
abbrev pub kept_or_replaced : ℕ → List ℕ
kept_or_replaced c =
    if nat_lt c 32 || (c == 65534 || c == 65535) then 239 ∷ 191 ∷ 189 ∷ [] else encode_utf8 c

-- a character between quotes
abbrev pub attribute_char : ℕ → List ℕ
attribute_char c =
    if c == 38 then codes "&amp;" else if c == 60 then codes "&lt;" else if c == 62
    then codes "&gt;" else if c == 34 then codes "&quot;"
    else if c == 9 then codes "&#9;" else if c == 10 then codes "&#10;" else if c == 13
    then codes "&#13;" else kept_or_replaced c

abbrev pub attribute_text : List ℕ → List ℕ
attribute_text text = flat_map attribute_char (chars text)

-- ---- Checkstyle

abbrev pub file_head : Remark → List ℕ
file_head r =
    codes "<file name=\""
    ++ (attribute_text r.file
    ++ (codes "\"><error line=\""
    ++ (decimal r.line ++ (codes "\" column=\"" ++ decimal r.column))))

abbrev pub file_middle : Remark → List ℕ
file_middle r = codes "\" severity=\"" ++ (severity_word r.subject ++ codes "\" message=\"")

abbrev pub file_tail : Remark → List ℕ
file_tail r =
    attribute_text r.text ++ codes "\" source=\"" ++ rule_id r.subject ++ codes "\"/></file>\n"

-- THE ERROR, with its file
abbrev pub checkstyle_file : Remark → List ℕ
checkstyle_file r = file_head r ++ file_middle r ++ file_tail r

-- ---- JUnit

-- the element of a test that an issue fails, or that a refusal prevents from running
abbrev pub outcome_word : Subject → List ℕ
outcome_word subject = if is_issue subject then codes "failure" else codes "error"

-- `FILE:LINE:COLUMN`
abbrev pub spot : Remark → List ℕ
spot r = attribute_text r.file ++ (codes ":" ++ (decimal r.line ++ (codes ":" ++ decimal r.column)))

abbrev pub case_head : Remark → List ℕ
case_head r =
    codes "<testcase classname=\""
    ++ (rule_id r.subject
    ++ (codes "\" name=\"" ++ (spot r ++ (codes "\"><" ++ outcome_word r.subject))))

abbrev pub case_tail : Remark → List ℕ
case_tail r =
    codes " type=\""
    ++ (severity_text (severity_of r.subject)
    ++ (codes "\" message=\""
    ++ (spot r ++ (codes ": " ++ (attribute_text r.text ++ codes "\"/></testcase>\n")))))

-- THE TEST that failed
abbrev pub junit_case : Remark → List ℕ
junit_case r = case_head r ++ case_tail r

abbrev pub suite_end : List ℕ
suite_end = codes "</testsuite>\n"

abbrev pub suite_head : List Remark → List ℕ
suite_head rs =
    codes "<testsuite name=\"tfrules\" tests=\"" ++ (decimal (length rs)
    ++ (codes "\" failures=\"" ++ (decimal (length (filter (λ r. is_issue r.subject) rs))
    ++ (codes "\" errors=\""
    ++ (decimal (length (filter (λ r. not (is_issue r.subject)) rs)) ++ codes "\">\n")))))

-- THE SUITE of remarks, if there are any
abbrev pub junit_suite : List Remark → List ℕ
junit_suite [] = []
junit_suite (r ∷ rs) = suite_head (r ∷ rs) ++ (flat_map junit_case (r ∷ rs) ++ suite_end)

-- a suite with a test that passed, if there are no remarks: some forges reject a report without tests
abbrev pub passed_suite : List ℕ
passed_suite =
    codes
    "<testsuite name=\"tfrules\" tests=\"1\" failures=\"0\" errors=\"0\">\n<testcase classname=\"tfrules\" name=\"no issue\"/>\n" ++ suite_end

-- the last one, after others or as the first
abbrev pub last_suite : Bool → List Remark → List ℕ
last_suite false [] = passed_suite
last_suite _ rs = junit_suite rs
