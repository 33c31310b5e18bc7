use Rattle.std.proofs.Common.{◌≡◌}
use Rattle.tf_facts.specs.Inner.Values.{values}
use Rattle.tf_facts.proofs.plain_text.next_value.Given as goal

abbrev pub invariant-loop-number : goal.invariant-loop-number
invariant-loop-number l = values l.tokens.tokens l.number l.to ≡ values l.tokens.tokens l.from l.to
