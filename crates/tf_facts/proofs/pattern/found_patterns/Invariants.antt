use Rattle.tf_facts.proofs.CommentLemmas.{AreCommentsFrom}
use Rattle.tf_facts.proofs.PatternLemmas.{IsWalkedBack}
use Rattle.tf_facts.proofs.pattern.found_patterns.Given as goal

abbrev pub invariant-loop-number : goal.invariant-loop-number
invariant-loop-number l = record {
  walked : IsWalkedBack l.tokens.tokens l.indexes.items l.interpolations.items l.openers.items l.next l.is_closed l.number;
  said : AreCommentsFrom l.tokens.tokens l.comments.items l.number;
}

abbrev pub decreases-loop-number : goal.decreases-loop-number
decreases-loop-number l = l.number
