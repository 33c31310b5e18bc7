use Rattle.std.proofs.Common.{◌≡◌, ◌+◌, ◌-◌}
use Rattle.line_diff.specs.Diffs.{count, is_changed, run_length}
use Rattle.line_diff.proofs.diff.end_of_change.Given as goal

abbrev pub invariant-loop-number : goal.invariant-loop-number
invariant-loop-number l = l.number + run_length (is_changed l.lines) l.number (count l.lines - l.number) ≡ l.start + run_length (is_changed l.lines) l.start (count l.lines - l.start)
