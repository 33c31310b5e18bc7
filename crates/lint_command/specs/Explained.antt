-- The texts about the rules: a line for each, and a longer one for a named rule. Our own choice, in the words of
-- docs/RULES.md.
use Rattle.std.specs.Prelude.{ℕ, Bool, List, [], ◌++◌, codes, flat_map, if◌then◌else◌}
use Rattle.rule_set.specs.Rules.{all_rules, is_recommended, rule_name, severity, severity_text}
use Rattle.rule_set.specs.declared.rule.Rule.{Rule}
use Rattle.lint_forms.specs.RuleTexts.{reason, reports}

abbrev pub default_word : Bool → List ℕ
default_word recommended = if recommended then codes ", default" else []

-- `NAME (SEVERITY, default): WHAT IT REPORTS`
abbrev pub rule_line : Rule → List ℕ
rule_line rule =
    rule_name rule
    ++ (codes " ("
    ++ (severity_text (severity rule)
    ++ (default_word (is_recommended rule) ++ (codes "): " ++ (reports rule ++ codes "\n")))))

-- why the rule reports it, and how to silence an issue
abbrev pub why_and_how : Rule → List ℕ
why_and_how rule =
    codes "\n"
    ++ (reason rule
    ++ (codes
    "\n\nA comment on the line of an issue, or on the line above it, silences it:\n\n  # tflint-ignore: "
    ++ (rule_name rule ++ codes "\n")))

-- THE EXPLANATION OF A RULE
abbrev pub explanation_of : Rule → List ℕ
explanation_of rule = rule_line rule ++ why_and_how rule

-- THE LIST OF THE RULES, in the order of their names
abbrev pub rule_list : List ℕ
rule_list = flat_map rule_line all_rules
