use Rattle.std.proofs.Common.{◌≡◌, ◌-◌, ◌++◌}
use Rattle.line_diff.specs.Diffs.{count, each, hunk_at, hunks}
use Rattle.line_diff.proofs.diff.push_hunks.Given as goal

abbrev pub invariant-loop-number : goal.invariant-loop-number
invariant-loop-number l = l.to.items ++ each (hunk_at l.lines) l.number (count l.lines - l.number) ≡ l.initial.to.items ++ hunks l.lines
