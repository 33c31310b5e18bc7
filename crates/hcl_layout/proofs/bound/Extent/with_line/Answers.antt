use Rattle.std.proofs.Common.{◌∙◌, arith, sym}
use Rattle.hcl_layout.proofs.WalkLemmas.{comment_follows, comment_in, running_some, sign_after, sign_within}
use Rattle.hcl_layout.proofs.bound.Extent.with_line.Goals as goal

pub room_before-assign-requires-clause-there : goal.room_before-assign-requires-clause-there
room_before-assign-requires-clause-there c n e = sign_within c.args.tokens.now.tokens c.args.depth c.args.line c.requires.line n e

pub room_before-assign-requires-clause-order : goal.room_before-assign-requires-clause-order
room_before-assign-requires-clause-order c n e = omega (arith, sign_after c.args.tokens.now.tokens c.args.depth c.args.line c.requires.line n e)

pub room_before-comment-requires-clause-there : goal.room_before-comment-requires-clause-there
room_before-comment-requires-clause-there c n e =
    comment_in c.args.tokens.now.tokens c.args.depth c.args.line c.requires.line n (running_some c.args.line.runs c.args.line.comment n (sym c.run_comment.ensures ∙ e))

pub room_before-comment-requires-clause-order : goal.room_before-comment-requires-clause-order
room_before-comment-requires-clause-order c n e =
    omega (arith, comment_follows c.args.tokens.now.tokens c.args.depth c.args.line c.requires.line n (running_some c.args.line.runs c.args.line.comment n (sym c.run_comment.ensures ∙ e)))
