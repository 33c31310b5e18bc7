use Rattle.std.proofs.Common.{arith}
use Rattle.std.specs.Prelude.{◌||◌}
use Rattle.rule_set.proofs.SetLemmas.{joined_more}
use Rattle.rule_set.proofs.rule_set.rules_of_both.Goals as goal

pub loop-number-preserved : goal.loop-number-preserved
loop-number-preserved c =
    joined_more (λ a b. a || b) c.args.one.held c.args.other.held c.loop-number.joined c.loop-number.number c.either.result (omega (arith, c.loop-number-test.true)) c.either.ensures c.loop-number.invariant
