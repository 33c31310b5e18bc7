use Rattle.hcl_grammar.specs.Numbered.{number_tokens}
use Rattle.tf_facts.proofs.DeclarationLemmas.{AreLocals}
use Rattle.tf_facts.proofs.declaration.push_locals.Given as goal

abbrev pub invariant-loop-number : goal.invariant-loop-number
invariant-loop-number l = AreLocals (number_tokens l.accepted.tokens) l.items l.from l.fn.found.items l.found.items l.number
