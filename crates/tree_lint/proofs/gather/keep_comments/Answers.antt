use Rattle.std.proofs.Common.{refl}
use Rattle.tree_lint.proofs.FileLemmas.{comments_added, none_added}
use Rattle.tree_lint.proofs.gather.keep_comments.Goals as goal

pub returns-then-not-into-clause-ok : goal.returns-then-not-into-clause-ok
returns-then-not-into-clause-ok c = none_added _ c.args.into.now c.if-not-into.true

pub returns-clause-ok : goal.returns-clause-ok
returns-clause-ok c = comments_added _ c.args.into.now _ c.if-not-into.false refl refl refl c.in_ok-add_comment_faults.ensures
