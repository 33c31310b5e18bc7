use Rattle.std.proofs.Common.{◌≡◌, map, take}
use Rattle.lint_forms.specs.Remarks.{said_by}
use Rattle.module_find.specs.KeptRefusals.{kept_remark}
use Rattle.module_find.proofs.kept.KeptRefusals.remarks.Given as goal

abbrev pub invariant-loop-refusal : goal.invariant-loop-refusal
invariant-loop-refusal l = map said_by l.all.items ≡ map kept_remark (take l.refusal-index l.self.refusals.items)
