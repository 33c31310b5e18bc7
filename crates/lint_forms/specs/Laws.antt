-- Laws of the JSON forms: the output of a run over modules is read back. The numbers are those of the code.
use Rattle.std.specs.Prelude.{◌≡◌, ◌++◌, ℕ, ◌<◌, ◌^◌, All, List, Some}
use Rattle.std.specs.List.{flat_map}
use Rattle.json.specs.Json.{Json as JsonValue, document}
use Rattle.lint_forms.specs.Documents.{run_text}
use Rattle.lint_forms.specs.Documents.{gitlab_json}
use Rattle.lint_forms.specs.Marks.{entries}
use Rattle.lint_forms.specs.Remarks.{Remark}
use Rattle.lint_forms.specs.Documents.{sarif_json}
use Rattle.lint_forms.specs.Documents.{tflint_json}
use Rattle.lint_forms.specs.declared.kind.Form.{Form}
use Rattle.lint_forms.specs.declared.kind.Form.TheVariants.{Gitlab, Json, Sarif}

pub record HasSmallNumbers (r : Remark) : Type 0 where
  pub line : r.line < 2 ^ 64
  pub column : r.column < 2 ^ 64

-- THE OUTPUT in a form, in a run of a status, for the issues of modules and the refusals, reads back by the rules of
-- JSON as the document of all of them
abbrev pub ReadsBack : Form → (List ℕ → ℕ → List (List Remark) → List Remark → JsonValue) → Type 0
ReadsBack form meant =
    (version : List ℕ) (status : ℕ) (ms : List (List Remark)) (rs : List Remark) → status < 2 ^ 64
    → All (All HasSmallNumbers) ms → All HasSmallNumbers rs
    → document (run_text form version status ms rs) ≡ Some (meant version status ms rs)

abbrev pub TflintReadsBack : Type 0
TflintReadsBack =
    ReadsBack Json (λ version status ms rs. tflint_json (flat_map (λ issues. issues) ms) rs)

abbrev pub SarifReadsBack : Type 0
SarifReadsBack =
    ReadsBack Sarif (λ version status ms rs. sarif_json version status (flat_map entries ms
    ++ entries rs))

abbrev pub GitlabReadsBack : Type 0
GitlabReadsBack =
    ReadsBack Gitlab (λ version status ms rs. gitlab_json (flat_map entries ms ++ entries rs))
