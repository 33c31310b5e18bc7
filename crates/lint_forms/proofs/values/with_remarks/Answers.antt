use Rattle.std.proofs.Common.{◌∙◌, ◌++◌, ap, map}
use Rattle.lint_forms.specs.Inner.Shapes.{entry_by}
use Rattle.lint_forms.specs.Remarks.{said_by}
use Rattle.lint_forms.specs.Values.{array_text}
use Rattle.lint_forms.proofs.ShapeLemmas.{all_shown, ok_as}
use Rattle.lint_forms.proofs.values.with_remarks.Goals as goal

pub returns : goal.returns
returns c =
    ok_as (λ v. v.items) c.with_values.result _ _
    (ap (λ js. c.args.text.items ++ array_text c.args.is_after js)
    (all_shown c.args.shape c.as_slice.result.now (map said_by c.args.remarks.now) (ap (map entry_by) c.as_slice.ensures.value ∙ c.in_ok-all.ensures)))
    c.with_values.ensures
