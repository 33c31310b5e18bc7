use Rattle.std.proofs.Common.{ap, map}
use Rattle.lint_forms.specs.Remarks.{said_by}
use Rattle.lint_forms.specs.Values.{array_text}
use Rattle.lint_forms.proofs.ShapeLemmas.{ok_as, shown_issues}
use Rattle.lint_forms.proofs.form.module_text.Goals as goal

pub returns-in-Json : goal.returns-in-Json
returns-in-Json c =
    rw c.in-Json.is (ok_as (λ v. v.items) c.values_of.result _ _ (ap (array_text c.args.is_after) (shown_issues (map said_by c.args.remarks.now))) c.values_of.ensures)
