use Rattle.std.proofs.Common.{◌≡◌, ◌≤◌, length, take}
use Rattle.tf_facts.specs.Texts.{without_end}
use Rattle.tf_facts.specs.Silencing.{is_margin}
use Rattle.tf_facts.proofs.silencing.without_end.Given as goal

abbrev pub invariant-loop-end : goal.invariant-loop-end
invariant-loop-end l = record { same : without_end is_margin (take l.end l.text) ≡ without_end is_margin l.text; within : l.end ≤ length l.text }

abbrev pub decreases-loop-end : goal.decreases-loop-end
decreases-loop-end l = l.end
