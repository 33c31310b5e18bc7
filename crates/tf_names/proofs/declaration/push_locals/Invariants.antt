use Rattle.tf_names.proofs.DeclarationLemmas.{AreLocals}
use Rattle.tf_names.proofs.declaration.push_locals.Given as goal

abbrev pub invariant-loop-number : goal.invariant-loop-number
invariant-loop-number l = AreLocals l.accepted.tokens l.items l.from l.fn.found.items l.found.items l.number
