use Rattle.std.proofs.Common.{ℕ, ◌+◌, ◌<◌}
use Rattle.hcl_scan.specs.Inner.Found.{EndsComment}
use Rattle.hcl_scan.proofs.comment.comment_end.Given as goal

abbrev pub invariant-loop-i : goal.invariant-loop-i
invariant-loop-i l = (m : ℕ) → m + 1 < l.i → EndsComment l.seen m → ⊥
