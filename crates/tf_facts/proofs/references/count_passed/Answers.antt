use Rattle.std.proofs.Common.{arith}
use Rattle.std.proofs.lemmas.Option.{slice_get_within}
use Rattle.tf_facts.proofs.OwnLemmas.{one_more_passed}
use Rattle.tf_facts.proofs.references.count_passed.Goals as goal

pub loop-next-preserved : goal.loop-next-preserved
loop-next-preserved c = record {
  passed = one_more_passed c.args.blocks.now c.loop-next.next c.args.number c.block_at-block.result c.block_at-block.ensures c.if-number-block.false c.loop-next.invariant.passed;
  within = omega arith;
}

pub returns-clause-ahead : goal.returns-clause-ahead
returns-clause-ahead c = λ o e. absurd (omega (arith, slice_get_within c.args.blocks.now c.loop-next.next o e, c.loop-next-test.false))
