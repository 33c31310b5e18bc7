use Rattle.std.proofs.Common.{◌∙◌, ap, flat_map, sym}
use Rattle.std.proofs.lemmas.List.{take_all}
use Rattle.std.proofs.lemmas.List.Folds.{flat_map-map}
use Rattle.lint_forms.specs.Lines.{github_line}
use Rattle.lint_forms.specs.Remarks.{said_by}
use Rattle.lint_forms.proofs.lines.module_lines.Goals as goal

pub returns : goal.returns
returns c =
    c.loop-remark.invariant
    ∙ ap (flat_map (λ r. github_line (said_by r))) (take_all c.loop-remark.remark-index c.args.remarks.now c.loop-remark-test.false)
    ∙ sym (flat_map-map github_line said_by c.args.remarks.now)
