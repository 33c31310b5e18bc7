use Rattle.std.proofs.Common.{◌≡◌, flat_map, take}
use Rattle.lint_forms.specs.Lines.{github_line}
use Rattle.lint_forms.specs.Remarks.{said_by}
use Rattle.lint_forms.proofs.lines.module_lines.Given as goal

abbrev pub invariant-loop-remark : goal.invariant-loop-remark
invariant-loop-remark l = l.text.items ≡ flat_map (λ r. github_line (said_by r)) (take l.remark-index l.remarks)
