use Rattle.std.proofs.Common.{◌≡◌, flat_map, take}
use Rattle.lint_forms.specs.Xml.{junit_case}
use Rattle.lint_forms.specs.Remarks.{said_by}
use Rattle.lint_forms.proofs.xml.some_cases.Given as goal

abbrev pub invariant-loop-remark : goal.invariant-loop-remark
invariant-loop-remark l = l.text.items ≡ flat_map (λ r. junit_case (said_by r)) (take l.remark-index l.remarks)
