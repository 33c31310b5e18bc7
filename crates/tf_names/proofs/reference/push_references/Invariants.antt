use Rattle.tf_names.proofs.ReferenceLemmas.{AreReferences}
use Rattle.tf_names.proofs.reference.push_references.Given as goal

abbrev pub invariant-loop-number : goal.invariant-loop-number
invariant-loop-number l = AreReferences l.accepted.tokens l.fn.found.items l.found.items l.number
