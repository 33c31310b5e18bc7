use Rattle.std.proofs.Common.{◌≡◌}
use Rattle.tf_facts.specs.Seen.{seen_from}
use Rattle.tf_facts.proofs.seen.next_seen.Given as goal

abbrev pub invariant-loop-number : goal.invariant-loop-number
invariant-loop-number l = seen_from l.tokens.tokens l.number ≡ seen_from l.tokens.tokens l.from
