use Rattle.std.proofs.Common.{arith}
use Rattle.std.specs.Prelude.{◌&&◌, not}
use Rattle.rule_set.proofs.SetLemmas.{joined_more}
use Rattle.rule_set.proofs.rule_set.rules_without.Goals as goal

pub loop-number-preserved : goal.loop-number-preserved
loop-number-preserved c =
    joined_more (λ a b. a && not b) c.args.one.held c.args.other.held c.loop-number.left c.loop-number.number c.first_alone.result (omega (arith, c.loop-number-test.true)) c.first_alone.ensures c.loop-number.invariant
