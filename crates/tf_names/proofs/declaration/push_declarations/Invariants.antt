use Rattle.tf_names.proofs.DeclarationLemmas.{AreDeclared}
use Rattle.tf_names.proofs.declaration.push_declarations.Given as goal

abbrev pub invariant-loop-number : goal.invariant-loop-number
invariant-loop-number l = AreDeclared l.accepted.tokens l.items l.fn.found.items l.found.items l.number
