use Rattle.std.proofs.Common.{◌-◌, ◌≤◌, length}
use Rattle.tf_facts.specs.Inner.Idents.{AreNoIdents}
use Rattle.tf_facts.proofs.references.next_ident.Given as goal

abbrev pub invariant-loop-number : goal.invariant-loop-number
invariant-loop-number l = record { order : l.from ≤ l.number; within : l.number ≤ length l.tokens.tokens; none : AreNoIdents l.tokens.tokens l.from l.number }

abbrev pub decreases-loop-number : goal.decreases-loop-number
decreases-loop-number l = length l.tokens.tokens - l.number
