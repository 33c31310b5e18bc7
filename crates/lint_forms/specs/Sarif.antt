-- SARIF 2.1.0. A refused file, and a comment that is meant to silence a rule and doesn't, are results with rules of
-- their own, after those of the linter. There are no columns: SARIF counts UTF-16 code units, and the linter what a
-- reader takes for characters.
use Rattle.std.specs.Prelude.{ℕ, ◌==◌, ◌++◌, ◌∷◌, [], not, List, codes, decimal, map}
use Rattle.json.specs.Json.{Json, array, boolean, item, member, no_items, no_members, number, object, string}
use Rattle.json.specs.Token.{Token, begin_array, begin_object, end_array, end_object, key}
use Rattle.json.specs.Tree.{json_tokens}
use Rattle.rule_set.specs.Rules.{all_rules, rank, rule_name}
use Rattle.rule_set.specs.declared.rule.Rule.{Rule}
use Rattle.lint_forms.specs.Marks.{MarkedRemark}
use Rattle.lint_forms.specs.Places.{uri}
use Rattle.lint_forms.specs.Remarks.{Remark}
use Rattle.lint_forms.specs.RuleTexts.{reason, reports}
use Rattle.lint_forms.specs.JsonValues.{json_items}
use Rattle.lint_forms.specs.Words.{level_word, rule_id}
use Rattle.lint_forms.specs.declared.subject.Subject.{Subject}
use Rattle.lint_forms.specs.declared.subject.Subject.TheVariants as subject

abbrev pub text_json : List ℕ → Json
text_json text = object (member (codes "text") (string text) no_members)

-- ---- rules

abbrev pub configuration_json : List ℕ → Json
configuration_json level = object (member (codes "level") (string level) no_members)

abbrev pub help_json : List ℕ → List ℕ → Json
help_json text markdown =
    object (member (codes "text") (string text) (member (codes "markdown") (string markdown)
    no_members))

-- a rule of this name: its reports, its reports with the reason, the reason, its page, and its level
abbrev pub described_rule : List ℕ → List ℕ → List ℕ → List ℕ → List ℕ → List ℕ → Json
described_rule name short full why page level =
    object (member (codes "id") (string name) (member (codes "shortDescription") (text_json short)
    (member (codes "fullDescription") (text_json full)
    (member (codes "help") (help_json full why)
    (member (codes "helpUri") (string page)
    (member (codes "defaultConfiguration") (configuration_json level) no_members))))))

abbrev pub full_text : List ℕ → List ℕ → List ℕ
full_text short why = codes "Reports " ++ (short ++ (codes ". " ++ why))

-- TFLint's page on the rule
abbrev pub page_of : List ℕ → List ℕ
page_of name =
    codes "https://github.com/terraform-linters/tflint-ruleset-terraform/blob/main/docs/rules/"
    ++ (name ++ codes ".md")

abbrev pub rule_json : Rule → Json
rule_json rule =
    described_rule (rule_name rule) (reports rule) (full_text (reports rule) (reason rule))
    (reason rule) (page_of (rule_name rule)) (level_word (subject.Rule rule))

-- the substitute for a rule, with less text: its name and its text
abbrev pub brief_rule : List ℕ → List ℕ → Json
brief_rule name short =
    object (member (codes "id") (string name) (member (codes "shortDescription") (text_json short)
    (member (codes "defaultConfiguration") (configuration_json (codes "error")) no_members)))

abbrev pub refusal_json : Json
refusal_json = brief_rule (rule_id subject.Refusal) (codes "files that can't be linted")

abbrev pub comment_json : Json
comment_json =
    brief_rule (rule_id subject.Comment) (codes "comments that are meant to silence a rule and don't")

-- ---- results

abbrev pub rule_index : Subject → ℕ
rule_index (subject.Rule rule) = rank rule
rule_index subject.Refusal = 10
rule_index subject.Comment = 11

abbrev pub region_json : Remark → Json
region_json r = object (member (codes "startLine") (number (decimal r.line)) no_members)

abbrev pub location_json : List ℕ → Remark → Json
location_json uri r =
    object (member (codes "physicalLocation") (object (member (codes "artifactLocation") (object
    (member (codes "uri") (string uri) no_members))
    (member (codes "region") (region_json r) no_members))) no_members)

abbrev pub marks_json : List ℕ → Json
marks_json mark =
    object (member (codes "primaryLocationLineHash") (string mark) (member (codes "tfrulesIssue/v1")
    (string mark) no_members))

-- a result by a rule of this name, number and level, in the file of this URI
abbrev pub result_by : List ℕ → ℕ → List ℕ → List ℕ → MarkedRemark → Json
result_by name index level uri e =
    object (member (codes "ruleId") (string name) (member (codes "ruleIndex") (number (decimal
    index)) (member (codes "level") (string level)
    (member (codes "message") (text_json e.said.text)
    (member (codes "locations") (array (item (location_json uri e.said) no_items))
    (member (codes "partialFingerprints") (marks_json e.mark) no_members))))))

-- A RESULT
abbrev pub result_json : MarkedRemark → Json
result_json e =
    result_by (rule_id e.said.subject) (rule_index e.said.subject) (level_word e.said.subject)
    (uri e.said.file) e

-- ---- the document

abbrev pub tool_json : List ℕ → Json
tool_json version =
    object (member (codes "driver") (object (member (codes "name") (string (codes "tfrules"))
    (member (codes "version") (string version)
    (member (codes "rules") (array (json_items (map rule_json all_rules
    ++ refusal_json ∷ comment_json ∷ []))) no_members)))) no_members)

-- the end of the run: if something failed, its status is 1
abbrev pub invocation_json : ℕ → Json
invocation_json status =
    object (member (codes "executionSuccessful") (boolean (not (status == 1))) (member (codes
    "exitCode") (number (decimal status)) no_members))

-- ---- its parts

-- the tokens before the results
abbrev pub sarif_head : List ℕ → List Token
sarif_head version =
    begin_object ∷ key (codes "$schema")
    ∷ Token.string (codes "https://json.schemastore.org/sarif-2.1.0.json") ∷ key (codes "version")
    ∷ Token.string (codes "2.1.0")
    ∷ key (codes "runs") ∷ begin_array ∷ begin_object ∷ key (codes "tool")
    ∷ (json_tokens (tool_json version)
    ++ key (codes "results") ∷ begin_array ∷ [])

-- and those after them
abbrev pub sarif_foot : ℕ → List Token
sarif_foot status =
    end_array ∷ key (codes "invocations") ∷ begin_array
    ∷ (json_tokens (invocation_json status) ++ end_array ∷ end_object ∷ end_array ∷ end_object ∷ [])
