use Rattle.lint_forms.proofs.ShapeLemmas.{in_steps, ok_as, shown_errors}
use Rattle.std.proofs.Common.{ap, false, map}
use Rattle.lint_forms.specs.Remarks.{said_by}
use Rattle.lint_forms.specs.Values.{array_text}
use Rattle.lint_forms.proofs.tflint_frame.foot.Goals as goal

pub returns : goal.returns
returns c =
    ok_as (λ v. v.items) c.with_parts-2.result _ _
    (in_steps _ _ _ _ _ _ _ c.new.ensures.items c.in_ok-start.ensures c.in_ok-longer.ensures (ap (array_text false) (shown_errors (map said_by c.args.remarks.now))))
    c.with_parts-2.ensures
