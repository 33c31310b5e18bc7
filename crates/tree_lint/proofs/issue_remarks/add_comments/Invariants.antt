use Rattle.std.proofs.Common.{◌≡◌, ◌++◌, map, take}
use Rattle.std.specs.Prelude.{string_bytes}
use Rattle.tree_lint.specs.CommentFaults.{fault_view}
use Rattle.lint_forms.specs.Remarks.{said_by}
use Rattle.tree_lint.specs.Runs.{comment_remark}
use Rattle.tree_lint.proofs.issue_remarks.add_comments.Given as goal

abbrev pub invariant-loop-fault : goal.invariant-loop-fault
invariant-loop-fault l = map said_by l.all.items ≡ map said_by l.initial.all.items ++ map (λ f. comment_remark (map string_bytes l.names) (fault_view f)) (take l.fault-index l.comments)
