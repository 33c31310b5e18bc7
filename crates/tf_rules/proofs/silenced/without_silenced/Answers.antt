use Rattle.std.proofs.Common.{◌∙◌, ◌++◌, ◌∷◌, [], ap, filter, not}
use Rattle.tf_rules.specs.Issues.{is_silenced}
use Rattle.tf_rules.specs.Inner.Entries.{issue_of}
use Rattle.tf_rules.proofs.SilencedLemmas.{shown_more}
use Rattle.tf_rules.proofs.silenced.without_silenced.Goals as goal

pub loop-entry-preserved : goal.loop-entry-preserved
loop-entry-preserved c = λ comments are.
    c.in_ok-push_unsilenced.ensures comments are
    ∙ ap (λ r. r ++ filter (λ i. not (is_silenced comments i)) (issue_of c.entry-item.result ∷ [])) (c.loop-entry.invariant comments are)
    ∙ shown_more (λ i. not (is_silenced comments i)) c.args.entries.now c.loop-entry.entry-index c.entry-item.result c.loop-entry-test.true c.entry-item.is
