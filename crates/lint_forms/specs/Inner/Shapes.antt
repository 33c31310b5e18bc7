-- The part of an entry that is in a JSON array.
use Rattle.std.specs.Prelude.{ℕ, Bool, List, [], ◌∷◌, flat_map, string_bytes}
use Rattle.json.specs.Json.{Json}
use Rattle.lint_forms.specs.Gitlab.{quality_json}
use Rattle.lint_forms.specs.Marks.{MarkedRemark}
use Rattle.lint_forms.specs.Remarks.{said_by}
use Rattle.lint_forms.specs.Sarif.{result_json}
use Rattle.lint_forms.specs.Tflint.{error_json, issue_json}
use Rattle.lint_forms.specs.JsonValues.{json_text}
use Rattle.lint_forms.specs.Values.{array_text}
use Rattle.lint_forms.specs.declared.entry.MarkedRemark as code
use Rattle.lint_forms.specs.declared.shape.Shape.{Shape}
use Rattle.lint_forms.specs.declared.shape.Shape.TheVariants as shape

-- an entry in the code's terms
abbrev pub entry_by : code.MarkedRemark → MarkedRemark
entry_by e = record { said = said_by e.said; mark = string_bytes e.mark }

abbrev pub shape_json : Shape → MarkedRemark → Json
shape_json shape.TflintIssue e = issue_json e.said
shape_json shape.TflintError e = error_json e.said
shape_json shape.SarifResult e = result_json e
shape_json shape.GitlabEntry e = quality_json e

abbrev pub shape_values : Shape → code.MarkedRemark → List Json
shape_values s e = shape_json s (entry_by e) ∷ []

-- ---- their texts

abbrev pub entry_text : Shape → code.MarkedRemark → List ℕ
entry_text s e = json_text (shape_json s (entry_by e))

abbrev pub shape_text : Shape → Bool → code.MarkedRemark → List ℕ
shape_text s is_after e = array_text is_after (shape_values s e)

abbrev pub shapes_text : Shape → Bool → List code.MarkedRemark → List ℕ
shapes_text s is_after es = array_text is_after (flat_map (shape_values s) es)
