use Rattle.std.proofs.Common.{◌≡◌, ◌≤◌, ◌-◌, take, length}
use Rattle.std.specs.Prelude.{◌==◌, count_by}
use Rattle.hcl_source.proofs.lines.line_ends.Given as goal

abbrev pub invariant-loop-from : goal.invariant-loop-from
invariant-loop-from l = record { within : l.from ≤ length l.bytes; count : l.count ≡ count_by (λ b. b == 10) (take l.from l.bytes); few : l.count ≤ l.from }

abbrev pub decreases-loop-from : goal.decreases-loop-from
decreases-loop-from l = length l.bytes - l.from
