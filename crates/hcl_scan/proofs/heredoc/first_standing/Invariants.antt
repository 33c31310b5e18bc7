use Rattle.hcl_scan.specs.Inner.Lanes.{MarksStanding}
use Rattle.hcl_scan.proofs.heredoc.first_standing.Given as goal

-- a place with the marker remains
abbrev pub invariant-loop-left : goal.invariant-loop-left
invariant-loop-left l = MarksStanding l.text l.marker l.at l.left

abbrev pub decreases-loop-left : goal.decreases-loop-left
decreases-loop-left l = l.left
