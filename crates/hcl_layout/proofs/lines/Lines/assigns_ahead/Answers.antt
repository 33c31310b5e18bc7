use Rattle.std.proofs.Common.{ap, arith, subst, sym}
use Rattle.hcl_layout.specs.Inner.Survey.{IsLine, facts_in}
use Rattle.hcl_layout.specs.declared.lines.LaidLine.{LaidLine}
use Rattle.hcl_layout.proofs.WalkLemmas.{sign_after, sign_within}
use Rattle.hcl_layout.proofs.lines.Lines.assigns_ahead.Goals as goal

pub assign_cell_width-requires-clause-order : goal.assign_cell_width-requires-clause-order
assign_cell_width-requires-clause-order c =
    let ts = c.args.tokens.now.tokens in
    let r = c.line_at-line.result in
    let d = c.loop-ahead.ahead.depth in
    let p = subst (λ k. IsLine ts k d (facts_in r)) (sym c.line_at-line.ensures.first) c.line_at-line.ensures.line in
    omega (arith, ap (λ (x : LaidLine). x.first) c.pass.ensures.laid, sign_after ts d r p c.in-Some.number c.in-Some.is)

pub assign_cell_width-requires-clause-within : goal.assign_cell_width-requires-clause-within
assign_cell_width-requires-clause-within c =
    let ts = c.args.tokens.now.tokens in
    let r = c.line_at-line.result in
    let d = c.loop-ahead.ahead.depth in
    let p = subst (λ k. IsLine ts k d (facts_in r)) (sym c.line_at-line.ensures.first) c.line_at-line.ensures.line in
    omega (arith, ap (λ (x : LaidLine). x.end) c.pass.ensures.laid, sign_within ts d r p c.in-Some.number c.in-Some.is)
