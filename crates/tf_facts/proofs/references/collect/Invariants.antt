use Rattle.std.proofs.Common.{map, length, ◌-◌, ◌≤◌}
use Rattle.tf_facts.specs.Inner.Idents.{IsIdentAt}
use Rattle.tf_facts.specs.Seen.{after_dot}
use Rattle.tf_facts.specs.Inner.Blocks.{block_view}
use Rattle.tf_facts.proofs.CollectLemmas.{IsWalked}
use Rattle.tf_facts.proofs.references.collect.Given as goal

abbrev pub invariant-loop-next : goal.invariant-loop-next
invariant-loop-next l = record {
  walked : IsWalked (map block_view l.blocks) l.tokens.tokens l.fn.into l.into (after_dot l.tokens.tokens l.next) l.passed_blocks (length l.blocks) l.next;
  within : l.next ≤ length l.tokens.tokens;
  ident : IsIdentAt l.tokens.tokens l.next;
}

abbrev pub decreases-loop-next : goal.decreases-loop-next
decreases-loop-next l = length l.tokens.tokens - l.next
