use Rattle.std.proofs.Common.{◌≡◌, ◌-◌, ◌++◌}
use Rattle.line_diff.specs.Diffs.{body_at, each}
use Rattle.line_diff.proofs.diff.push_body.Given as goal

abbrev pub invariant-loop-number : goal.invariant-loop-number
invariant-loop-number l = l.to.items ++ each (body_at l.lines) l.number (l.end - l.number) ≡ l.initial.to.items ++ each (body_at l.lines) l.start (l.end - l.start)
