use Rattle.std.proofs.Common.{◌≡◌, map, take}
use Rattle.std.specs.Prelude.{string_bytes}
use Rattle.lint_forms.specs.Remarks.{said_by}
use Rattle.tree_lint.specs.Runs.{issue_remark}
use Rattle.tree_lint.proofs.issue_remarks.remarks_of.Given as goal

abbrev pub invariant-loop-issue : goal.invariant-loop-issue
invariant-loop-issue l = map said_by l.all.items ≡ map (issue_remark (map string_bytes l.names)) (take l.issue-index l.issues)
