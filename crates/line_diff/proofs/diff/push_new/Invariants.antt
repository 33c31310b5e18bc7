use Rattle.std.proofs.Common.{◌≡◌, ◌-◌, ◌++◌, codes}
use Rattle.line_diff.specs.Diffs.{each, line_at, signed_line}
use Rattle.line_diff.proofs.diff.push_new.Given as goal

abbrev pub invariant-loop-number : goal.invariant-loop-number
invariant-loop-number l = l.to.items ++ each (λ k. signed_line (codes "+") (line_at l.lines.new k)) l.number (l.end - l.number) ≡ l.initial.to.items ++ each (λ k. signed_line (codes "+") (line_at l.lines.new k)) l.start (l.end - l.start)
