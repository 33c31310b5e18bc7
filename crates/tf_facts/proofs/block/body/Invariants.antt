use Rattle.hcl_grammar.specs.Numbered.{number_tokens}
use Rattle.tf_facts.proofs.BodyLemmas.{IsBody}
use Rattle.tf_facts.proofs.block.body.Given as goal

abbrev pub invariant-loop-number : goal.invariant-loop-number
invariant-loop-number l = IsBody (number_tokens l.accepted.tokens) l.items l.from l.body l.number
