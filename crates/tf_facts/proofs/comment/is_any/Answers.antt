use Rattle.std.proofs.Common.{◌∙◌}
use Rattle.tf_facts.proofs.CommentLemmas.{holds_any}
use Rattle.tf_facts.proofs.comment.is_any.Goals as goal

pub returns : goal.returns
returns c = c.holds_any.ensures ∙ holds_any c.args.set
