use Rattle.std.proofs.Common.{◌≡◌, ◌≤◌, length}
use Rattle.tf_facts.specs.Seen.{after_dot}
use Rattle.tf_facts.proofs.seen.is_after_dot.Given as goal

abbrev pub invariant-loop-before : goal.invariant-loop-before
invariant-loop-before l = record {
  same : after_dot l.tokens.tokens l.before ≡ after_dot l.tokens.tokens l.fn.number;
  within : l.before ≤ length l.tokens.tokens;
}

abbrev pub decreases-loop-before : goal.decreases-loop-before
decreases-loop-before l = l.before
