use Rattle.std.proofs.Common.{◌∙◌, not, sym}
use Rattle.std.proofs.lemmas.List.{length-map}
use Rattle.std.specs.Prelude.{string_bytes}
use Rattle.lint_forms.specs.Inner.XmlParts.{suite_start}
use Rattle.lint_forms.specs.Remarks.{said_by}
use Rattle.lint_forms.specs.Words.{is_issue}
use Rattle.lint_forms.proofs.ShapeLemmas.{ok_as}
use Rattle.lint_forms.proofs.XmlLemmas.{kept_as_said}
use Rattle.lint_forms.proofs.xml.suite_head.Goals as goal

pub returns : goal.returns
returns c =
    let tests = sym (length-map c.args.remarks.now said_by) in
    let failures = c.issues_of-failures.ensures ∙ sym (kept_as_said is_issue c.args.remarks.now) in
    let errors = c.refusals_of-errors.ensures ∙ sym (kept_as_said (λ subject. not (is_issue subject)) c.args.remarks.now) in
    ok_as string_bytes c.suite_start.result _ _ (λ i. suite_start (tests i) (failures i) (errors i)) c.suite_start.ensures
