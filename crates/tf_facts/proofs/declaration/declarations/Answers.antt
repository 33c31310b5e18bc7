use Rattle.std.proofs.Common.{arith}
use Rattle.hcl_grammar.specs.Numbered.{number_tokens}
use Rattle.tf_facts.proofs.DeclarationLemmas.{declared_more}
use Rattle.tf_facts.proofs.declaration.declarations.Goals as goal

pub loop-number-preserved : goal.loop-number-preserved
loop-number-preserved c =
    declared_more (number_tokens c.args.accepted.now.tokens) c.args.items.now c.loop-number.found.items c.loop-number.number c.push_item.new.found.items (omega (arith, c.loop-number-test.true, c.len-number-end.ensures))
    c.in_ok-push_item.ensures c.loop-number.invariant
