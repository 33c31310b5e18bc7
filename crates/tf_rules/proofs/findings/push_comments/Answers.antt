use Rattle.std.proofs.Common.{◌∙◌, ap, arith, map, ◌++◌}
use Rattle.tf_rules.specs.Findings.{slash_findings}
use Rattle.tf_rules.specs.Stored.{issue_at}
use Rattle.tf_rules.specs.Inner.Entries.{issues_of}
use Rattle.tf_rules.specs.Inner.StoredViews.{stored_comment}
use Rattle.rule_set.specs.declared.rule.Rule.TheVariants.{CommentSyntax}
use Rattle.tf_rules.proofs.EntryLemmas.{put_all, put_map}
use Rattle.tf_rules.proofs.findings.push_comments.Goals as goal

pub returns : goal.returns
returns c =
    put_all (λ x. map (issue_at CommentSyntax) (slash_findings (stored_comment x))) c.args.comments.now c.loop-comment.comment-index (issues_of c.args.entries.now.items) (issues_of c.loop-comment.entries.items)
    (omega (arith, c.loop-comment-test.false)) c.loop-comment.invariant
    ∙ ap (λ r. issues_of c.args.entries.now.items ++ r) (put_map slash_findings stored_comment (issue_at CommentSyntax) c.args.comments.now)
