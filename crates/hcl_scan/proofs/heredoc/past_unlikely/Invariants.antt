use Rattle.std.proofs.Common.{◌≤◌, ◌-◌, ◌+◌, length}
use Rattle.hcl_scan.specs.Inner.Lanes.{NoneStands}
use Rattle.hcl_scan.proofs.heredoc.past_unlikely.Given as goal

-- the marker isn't after the places up to this one
abbrev pub invariant-loop-here : goal.invariant-loop-here
invariant-loop-here l = record { low : l.place ≤ l.here; within : l.here + length l.marker ≤ length l.text; none : NoneStands l.text l.marker l.place l.here }

abbrev pub decreases-loop-here : goal.decreases-loop-here
decreases-loop-here l = length l.text - l.here
