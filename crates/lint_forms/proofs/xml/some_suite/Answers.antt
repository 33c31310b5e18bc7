use Rattle.std.proofs.Common.{◌∙◌}
use Rattle.lint_forms.proofs.XmlLemmas.{in_three}
use Rattle.lint_forms.proofs.xml.some_suite.Goals as goal

pub returns : goal.returns
returns c =
    in_three _ _ _ _ _ _ _ _ _ c.new-text.ensures.items c.in_ok-extend_from_slice.ensures.items c.in_ok-extend_from_slice-2.ensures.items
    c.in_ok-extend_from_slice-3.ensures.items (c.as_bytes.ensures.value ∙ c.in_ok-head.ensures) (c.as_slice.ensures.value ∙ c.in_ok-cases.ensures)
