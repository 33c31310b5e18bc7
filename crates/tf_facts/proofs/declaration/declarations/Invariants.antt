use Rattle.hcl_grammar.specs.Numbered.{number_tokens}
use Rattle.tf_facts.proofs.DeclarationLemmas.{AreDeclared}
use Rattle.tf_facts.proofs.declaration.declarations.Given as goal

abbrev pub invariant-loop-number : goal.invariant-loop-number
invariant-loop-number l = AreDeclared (number_tokens l.accepted.tokens) l.items l.found.items l.number
