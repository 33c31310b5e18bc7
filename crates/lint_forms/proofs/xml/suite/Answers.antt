use Rattle.std.proofs.Common.{◌<◌, arith, length}
use Rattle.std.proofs.lemmas.Grind.{common_steps}
use Rattle.lint_forms.proofs.ShapeLemmas.{ok_as}
use Rattle.lint_forms.proofs.XmlLemmas.{suite_of_some}
use Rattle.lint_forms.proofs.xml.suite.Goals as goal

pub returns : goal.returns
returns c =
    let some : 0 < length c.args.remarks.now = grind (arith, common_steps) in
    ok_as (λ v. v.items) c.some_suite.result _ _ (suite_of_some c.args.remarks.now some) c.some_suite.ensures
