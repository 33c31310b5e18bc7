use Rattle.std.proofs.Common.{map, ◌-◌, ◌≤◌, length}
use Rattle.tf_facts.specs.Inner.Blocks.{block_view, ArePassed}
use Rattle.tf_facts.proofs.references.count_passed.Given as goal

abbrev pub invariant-loop-next : goal.invariant-loop-next
invariant-loop-next l = record { passed : ArePassed (map block_view l.blocks) l.next l.number; within : l.next ≤ length l.blocks }

abbrev pub decreases-loop-next : goal.decreases-loop-next
decreases-loop-next l = length l.blocks - l.next
