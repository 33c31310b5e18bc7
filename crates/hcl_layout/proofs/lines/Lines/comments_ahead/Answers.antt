use Rattle.std.proofs.Common.{◌∙◌, arith, subst, sym}
use Rattle.hcl_layout.specs.Inner.Survey.{IsLine, facts_in}
use Rattle.hcl_layout.proofs.WalkLemmas.{comment_follows, comment_in, running_some}
use Rattle.hcl_layout.proofs.lines.Lines.comments_ahead.Goals as goal

pub comment_width-requires-clause-order : goal.comment_width-requires-clause-order
comment_width-requires-clause-order c =
    let ts = c.args.tokens.now.tokens in
    let r = c.line_at-line.result in
    let d = c.loop-ahead.ahead.depth in
    let p = subst (λ k. IsLine ts k d (facts_in r)) (sym c.line_at-line.ensures.first) c.line_at-line.ensures.line in
    omega (arith, c.pass_assign-laid.ensures.spans.0, comment_follows ts d r p c.in-Some.number (running_some r.runs r.comment c.in-Some.number (sym c.run_comment.ensures ∙ c.in-Some.is)))

pub comment_width-requires-clause-within : goal.comment_width-requires-clause-within
comment_width-requires-clause-within c =
    let ts = c.args.tokens.now.tokens in
    let r = c.line_at-line.result in
    let d = c.loop-ahead.ahead.depth in
    let p = subst (λ k. IsLine ts k d (facts_in r)) (sym c.line_at-line.ensures.first) c.line_at-line.ensures.line in
    omega (arith, c.pass_assign-laid.ensures.spans.1, comment_in ts d r p c.in-Some.number (running_some r.runs r.comment c.in-Some.number (sym c.run_comment.ensures ∙ c.in-Some.is)))
