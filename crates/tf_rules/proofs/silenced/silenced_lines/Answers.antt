use Rattle.std.proofs.Common.{◌∙◌, ap, arith, map, take}
use Rattle.std.specs.List.{list_any}
use Rattle.tf_rules.specs.Inner.StoredViews.{stored_comment}
use Rattle.tf_rules.specs.Inner.SilencedLines.{is_on}
use Rattle.tf_rules.proofs.SilencedLemmas.{stored_more}
use Rattle.tf_rules.proofs.silenced.silenced_lines.Goals as goal

pub loop-comment-preserved : goal.loop-comment-preserved
loop-comment-preserved c = λ f l rule.
    c.in_ok-silence_by.ensures (map stored_comment (take c.loop-comment.comment-index c.args.comments.now)) c.loop-comment.invariant f l rule
    ∙ ap (list_any (is_on f l rule)) (stored_more c.args.comments.now c.loop-comment.comment-index _ (omega (arith, c.loop-comment-test.true)))
