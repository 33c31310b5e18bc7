use Rattle.std.proofs.Common.{◌≤◌, ◌-◌, length}
use Rattle.hcl_scan.proofs.CandidateLemmas.{IsLater}
use Rattle.hcl_scan.proofs.heredoc.next_place.Given as goal

-- a marker line's marker isn't before this place
abbrev pub invariant-loop-here : goal.invariant-loop-here
invariant-loop-here l = record { low : l.at ≤ l.here; within : l.here ≤ length l.text; later : IsLater l.marker l.text l.at l.here }

abbrev pub decreases-loop-here : goal.decreases-loop-here
decreases-loop-here l = length l.text - l.here
