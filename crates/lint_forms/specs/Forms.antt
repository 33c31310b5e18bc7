-- THE FORMS: the text before all modules, the text of each module's issues, and the text after them: the refusals, and
-- the end.
use Rattle.std.specs.Prelude.{ℕ, Bool, false, List, [], ◌∷◌, ◌++◌, codes, map}
use Rattle.std.specs.List.{flat_map}
use Rattle.json.specs.Print.{print}
use Rattle.json.specs.Token.{begin_array, begin_object, end_array, end_object, key}
use Rattle.lint_forms.specs.Gitlab.{quality_json}
use Rattle.lint_forms.specs.Lines.{github_line}
use Rattle.lint_forms.specs.Marks.{entries}
use Rattle.lint_forms.specs.Remarks.{Remark}
use Rattle.lint_forms.specs.Sarif.{result_json, sarif_foot, sarif_head}
use Rattle.lint_forms.specs.Tflint.{error_json, issue_json}
use Rattle.lint_forms.specs.Values.{array_text}
use Rattle.lint_forms.specs.Xml.{checkstyle_file, junit_suite, last_suite}
use Rattle.lint_forms.specs.declared.kind.Form.{Form}
use Rattle.lint_forms.specs.declared.kind.Form.TheVariants.{Json, Sarif, Checkstyle, Junit, Gitlab, Github}

abbrev pub tflint_head : List ℕ
tflint_head = print (begin_object ∷ key (codes "issues") ∷ begin_array ∷ [])

-- the first output of the program of a version
abbrev pub form_head : Form → List ℕ → List ℕ
form_head Json version = tflint_head
form_head Sarif version = print (sarif_head version)
form_head Checkstyle version =
    codes "<?xml version=\"1.0\" encoding=\"UTF-8\"?>\n<checkstyle version=\"4.3\">\n"
form_head Junit version = codes "<?xml version=\"1.0\" encoding=\"UTF-8\"?>\n<testsuites>\n"
form_head Gitlab version = print (begin_array ∷ [])
form_head Github version = []

-- the issues of a module, after those of others or as the first
abbrev pub module_text : Form → Bool → List Remark → List ℕ
module_text Json is_after rs = array_text is_after (map issue_json rs)
module_text Sarif is_after rs = array_text is_after (map result_json (entries rs))
module_text Checkstyle is_after rs = flat_map checkstyle_file rs
module_text Junit is_after rs = junit_suite rs
module_text Gitlab is_after rs = array_text is_after (map quality_json (entries rs))
module_text Github is_after rs = flat_map github_line rs

abbrev pub tflint_foot : List Remark → List ℕ
tflint_foot rs =
    print (end_array ∷ key (codes "errors") ∷ begin_array ∷ [])
    ++ (array_text false (map error_json rs) ++ print (end_array ∷ end_object ∷ []))

-- the last output, in a run of a status, after issues or without any: why files are refused
abbrev pub form_foot : Form → ℕ → Bool → List Remark → List ℕ
form_foot Json status is_after rs = tflint_foot rs
form_foot Sarif status is_after rs =
    array_text is_after (map result_json (entries rs)) ++ print (sarif_foot status)
form_foot Checkstyle status is_after rs = flat_map checkstyle_file rs ++ codes "</checkstyle>\n"
form_foot Junit status is_after rs = last_suite is_after rs ++ codes "</testsuites>\n"
form_foot Gitlab status is_after rs =
    array_text is_after (map quality_json (entries rs)) ++ print (end_array ∷ [])
form_foot Github status is_after rs = flat_map github_line rs

-- ---- the whole
