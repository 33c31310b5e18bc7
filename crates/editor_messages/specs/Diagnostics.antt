-- WHAT AN EDITOR IS TOLD of a document, not having asked (Language Server Protocol 3.17, "PublishDiagnostics Notification"):
-- what it was told before counts no more.
use Rattle.std.specs.Prelude.{ℕ, List, Option, Some, None, codes, decimal, map}
use Rattle.json.specs.Json.{Json, Members, array, member, no_members, number, object, string}
use Rattle.lint_forms.specs.JsonValues.{json_items}
use Rattle.text_places.specs.declared.ranges.Range.{Range}
use Rattle.lint_forms.specs.Sarif.{page_of}
use Rattle.rule_set.specs.Rules.{rule_name, severity}
use Rattle.rule_set.specs.declared.rule.Rule.{Rule}
use Rattle.rule_set.specs.declared.rule.Severity.{Severity}
use Rattle.rule_set.specs.declared.rule.Severity.TheVariants.{Notice, Warning, Error}
use Rattle.editor_messages.specs.Replies.{range_json}

-- a text about a part of a document: the issue of a rule, or why the document is refused
pub record Diagnostic : Type 0 where
  pub range : Range
  pub rule : Option Rule
  pub text : List ℕ

-- the protocol's number for a severity
abbrev pub severity_number : Severity → ℕ
severity_number Error = 1
severity_number Warning = 2
severity_number Notice = 3

-- a refusal is an error
abbrev pub severity_by : Option Rule → ℕ
severity_by None = severity_number Error
severity_by (Some rule) = severity_number (severity rule)

-- the members about a rule, its name and its page, before others
abbrev pub with_rule : Option Rule → Members → Members
with_rule None ms = ms
with_rule (Some rule) ms =
    member (codes "code") (string (rule_name rule))
    (member (codes "codeDescription")
    (object (member (codes "href") (string (page_of (rule_name rule))) no_members)) ms)

abbrev pub diagnostic_json : Diagnostic → Json
diagnostic_json d =
    object (member (codes "range") (range_json d.range.start d.range.end)
    (member (codes "severity") (number (decimal (severity_by d.rule)))
    (with_rule d.rule (member (codes "source") (string (codes "tfls"))
    (member (codes "message") (string d.text) no_members)))))

-- THE DIAGNOSTICS of the document that has this URI
abbrev pub diagnostics_json : List ℕ → List Diagnostic → Json
diagnostics_json uri ds =
    object (member (codes "jsonrpc") (string (codes "2.0"))
    (member (codes "method") (string (codes "textDocument/publishDiagnostics"))
    (member (codes "params") (object
    (member (codes "uri") (string uri)
    (member (codes "diagnostics") (array (json_items (map diagnostic_json ds))) no_members))) no_members)))
