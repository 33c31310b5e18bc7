use Rattle.std.proofs.Common.{◌≡◌, ◌++◌, drop}
use Rattle.tf_rules.proofs.owned.owned_issues.Given as goal

abbrev pub invariant-loop-number : goal.invariant-loop-number
invariant-loop-number l = l.issues.items ++ drop l.number l.list ≡ l.list
