use Rattle.tree_lint.proofs.CommentLemmas.{IsLooking}
use Rattle.tree_lint.proofs.comments.add_comment_faults.Given as goal

abbrev pub invariant-loop-number : goal.invariant-loop-number
invariant-loop-number l = IsLooking (record { number = l.file; source = l.tokens }) l.initial.faults.items l.faults.items l.number l.cursor
