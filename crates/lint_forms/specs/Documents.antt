-- The whole output of a run in a form, and the JSON documents for which the outputs of three forms stand.
use Rattle.std.specs.Prelude.{ℕ, ◌||◌, Bool, true, false, List, [], ◌∷◌, ◌++◌, codes, map}
use Rattle.std.specs.List.{list_any}
use Rattle.json.specs.Json.{Json, array, item, member, no_items, no_members, object, string}
use Rattle.lint_forms.specs.Forms.{form_foot, form_head, module_text}
use Rattle.lint_forms.specs.Gitlab.{quality_json}
use Rattle.lint_forms.specs.Marks.{MarkedRemark}
use Rattle.lint_forms.specs.Remarks.{Remark}
use Rattle.lint_forms.specs.Sarif.{invocation_json, result_json, tool_json}
use Rattle.lint_forms.specs.Tflint.{error_json, issue_json}
use Rattle.lint_forms.specs.JsonValues.{json_items}
use Rattle.lint_forms.specs.declared.kind.Form.{Form}

abbrev pub is_some : List Remark → Bool
is_some [] = false
is_some (r ∷ rs) = true

-- the issues of modules, in turn
abbrev pub modules_text : Form → Bool → List (List Remark) → List ℕ
modules_text form is_after [] = []
modules_text form is_after (rs ∷ ms) =
    module_text form is_after rs ++ modules_text form (is_after || is_some rs) ms

-- THE TEXT of a run in which these are the issues of modules, and the refusals
abbrev pub run_text : Form → List ℕ → ℕ → List (List Remark) → List Remark → List ℕ
run_text form version status ms rs =
    form_head form version
    ++ (modules_text form false ms ++ form_foot form status (list_any is_some ms) rs)

-- THE DOCUMENT of the remarks on all modules
abbrev pub gitlab_json : List MarkedRemark → Json
gitlab_json es = array (json_items (map quality_json es))

abbrev pub run_json : List ℕ → ℕ → List MarkedRemark → Json
run_json version status es =
    object (member (codes "tool") (tool_json version) (member (codes "results") (array (json_items
    (map result_json es)))
    (member (codes "invocations") (array (item (invocation_json status) no_items)) no_members)))

-- THE DOCUMENT of the remarks on all modules, by the program of a version in a run of a status
abbrev pub sarif_json : List ℕ → ℕ → List MarkedRemark → Json
sarif_json version status es =
    object (member (codes "$schema") (string (codes
    "https://json.schemastore.org/sarif-2.1.0.json"))
    (member (codes "version") (string (codes "2.1.0"))
    (member (codes "runs") (array (item (run_json version status es) no_items)) no_members)))

-- THE DOCUMENT of these issues and refusals
abbrev pub tflint_json : List Remark → List Remark → Json
tflint_json issues refusals =
    object (member (codes "issues") (array (json_items (map issue_json issues))) (member (codes
    "errors") (array (json_items (map error_json refusals))) no_members))
