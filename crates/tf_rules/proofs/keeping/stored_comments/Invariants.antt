use Rattle.std.proofs.Common.{[], ◌∷◌}
use Rattle.tf_rules.specs.Issues.{comment_at, place_in}
use Rattle.tf_facts.specs.Found.{comment}
use Rattle.tf_rules.specs.Inner.StoredViews.{stored_comment}
use Rattle.tf_rules.specs.Inner.Locating.{IsKeeping}
use Rattle.tf_rules.proofs.keeping.stored_comments.Given as goal

abbrev pub invariant-loop-comment : goal.invariant-loop-comment
invariant-loop-comment l = IsKeeping stored_comment (λ c. comment_at (place_in l.fn.locator.file) (comment c)) (λ c. c.at ∷ []) l.fn.locator.file l.comments l.kept.items l.comment-index l.locator
