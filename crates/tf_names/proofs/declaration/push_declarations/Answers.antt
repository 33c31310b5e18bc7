use Rattle.std.proofs.Common.{arith}
use Rattle.tf_names.proofs.DeclarationLemmas.{declared_more}
use Rattle.tf_names.proofs.declaration.push_declarations.Goals as goal

pub loop-number-preserved : goal.loop-number-preserved
loop-number-preserved c =
    declared_more c.args.accepted.now.tokens c.args.items.now c.args.found.now.items c.loop-number.found.items c.push_item.new.found.items c.loop-number.number (omega (arith, c.loop-number-test.true, c.len-number-end.ensures))
    c.in_ok-push_item.ensures c.loop-number.invariant
