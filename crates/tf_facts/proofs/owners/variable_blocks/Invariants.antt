use Rattle.hcl_grammar.specs.Numbered.{number_tokens}
use Rattle.tf_facts.proofs.OwnerLemmas.{AreOwners}
use Rattle.tf_facts.proofs.owners.variable_blocks.Given as goal

abbrev pub invariant-loop-number : goal.invariant-loop-number
invariant-loop-number l = AreOwners (number_tokens l.accepted.tokens) l.items l.found.items l.number
