use Rattle.std.specs.Prelude.{◌&&◌, not}
use Rattle.rule_set.proofs.SetLemmas.{AreJoined}
use Rattle.rule_set.proofs.rule_set.rules_without.Given as goal

abbrev pub invariant-loop-number : goal.invariant-loop-number
invariant-loop-number l = AreJoined (λ a b. a && not b) l.one.held l.other.held l.left l.number
