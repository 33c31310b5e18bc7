use Rattle.std.proofs.Common.{◌≡◌, ◌+◌, ◌-◌}
use Rattle.line_diff.specs.Diffs.{count, is_shown, run_length}
use Rattle.line_diff.proofs.diff.end_of_hunk.Given as goal

abbrev pub invariant-loop-number : goal.invariant-loop-number
invariant-loop-number l = l.number + run_length (is_shown l.lines) l.number (count l.lines - l.number) ≡ l.start + run_length (is_shown l.lines) l.start (count l.lines - l.start)
