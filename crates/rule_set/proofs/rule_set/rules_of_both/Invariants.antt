use Rattle.std.specs.Prelude.{◌||◌}
use Rattle.rule_set.proofs.SetLemmas.{AreJoined}
use Rattle.rule_set.proofs.rule_set.rules_of_both.Given as goal

abbrev pub invariant-loop-number : goal.invariant-loop-number
invariant-loop-number l = AreJoined (λ a b. a || b) l.one.held l.other.held l.joined l.number
