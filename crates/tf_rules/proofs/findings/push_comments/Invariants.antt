use Rattle.std.proofs.Common.{◌≡◌, ◌++◌, map, take}
use Rattle.std.specs.List.{flat_map}
use Rattle.tf_rules.specs.Findings.{slash_findings}
use Rattle.tf_rules.specs.Stored.{issue_at}
use Rattle.tf_rules.specs.Inner.Entries.{issues_of}
use Rattle.tf_rules.specs.Inner.StoredViews.{stored_comment}
use Rattle.rule_set.specs.declared.rule.Rule.TheVariants.{CommentSyntax}
use Rattle.tf_rules.proofs.findings.push_comments.Given as goal

abbrev pub invariant-loop-comment : goal.invariant-loop-comment
invariant-loop-comment l = issues_of l.entries.items ≡ issues_of l.fn.entries.items ++ flat_map (λ x. map (issue_at CommentSyntax) (slash_findings (stored_comment x))) (take l.comment-index l.comments)
