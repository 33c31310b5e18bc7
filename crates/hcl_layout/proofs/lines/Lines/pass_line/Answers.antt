use Rattle.std.proofs.Common.{◌≡◌, ◌∙◌, ◌+◌, ◌-◌, ◌<◌, ℕ, List, None, Some, ap, arith, subst, sym}
use Rattle.hcl_layout.specs.Cells.{trailing_comment}
use Rattle.hcl_layout.specs.Gaps.{align}
use Rattle.hcl_layout.specs.Inner.Laid.{Laid, column_of, shape, gaps_after_assign, text_of}
use Rattle.hcl_layout.specs.Inner.LineGaps.{gaps_in}
use Rattle.hcl_layout.specs.Inner.Survey.{IsLine, facts_in}
use Rattle.hcl_layout.specs.declared.lines.LaidLine.{LaidLine}
use Rattle.hcl_layout.specs.declared.lines.Lines.{Lines}
use Rattle.hcl_layout.proofs.PassLemmas.{comment_at, commented_gaps, commented_laid, to_own}
use Rattle.hcl_layout.proofs.WalkLemmas.{comment_follows, comment_in, read_within}
use Rattle.hcl_layout.proofs.lines.Lines.pass_line.Goals as goal

pub comment_width-width-requires-clause-order : goal.comment_width-width-requires-clause-order
comment_width-width-requires-clause-order c =
    let ts = c.args.tokens.now.tokens in
    let r = c.args.line in
    let d = c.args.self.now.depth in
    let p = subst (λ k. IsLine ts k d (facts_in r)) (sym c.requires.first) c.requires.line in
    omega (arith, c.pass_assign-laid.ensures.spans.0, comment_follows ts d r p c.in-Some.number c.in-Some.is)

pub comment_width-width-requires-clause-within : goal.comment_width-width-requires-clause-within
comment_width-width-requires-clause-within c =
    let ts = c.args.tokens.now.tokens in
    let r = c.args.line in
    let d = c.args.self.now.depth in
    let p = subst (λ k. IsLine ts k d (facts_in r)) (sym c.requires.first) c.requires.line in
    omega (arith, c.pass_assign-laid.ensures.spans.1, comment_in ts d r p c.in-Some.number c.in-Some.is)

pub returns-then-not-line-clause-laid : goal.returns-then-not-line-clause-laid
returns-then-not-line-clause-laid c =
    let ts = c.args.tokens.now.tokens in
    let r = c.args.line in
    let d = c.args.self.now.depth in
    let p = subst (λ k. IsLine ts k d (facts_in r)) (sym c.requires.first) c.requires.line in
    let b = c.pass_assign-laid.result in
    let w = c.comment_width-width.result in
    subst (Laid ts) (sym c.with_comment.ensures) (commented_laid ts b c.in-Some.number w (w - w + 1) c.pass_assign-laid.ensures.laid (omega (arith, c.pass_assign-laid.ensures.spans.0, comment_follows ts d r p c.in-Some.number c.in-Some.is)) (omega arith))

pub returns-then-not-line-clause-gaps : goal.returns-then-not-line-clause-gaps
returns-then-not-line-clause-gaps c =
    let ts = c.args.tokens.now.tokens in
    let s = c.args.self.now in
    let r = c.args.line in
    let p = subst (λ k. IsLine ts k s.depth (facts_in r)) (sym c.requires.first) c.requires.line in
    let b = c.pass_assign-laid.result in
    let n = c.in-Some.number in
    let w = c.comment_width-width.result in
    let e = c.pass_assign-laid.ensures in
    let text : List _ = text_of ts b in
    let here : n < b.end = omega (arith, e.spans.1, comment_in ts s.depth r p n c.in-Some.is) in
    subst (λ (x : LaidLine). gaps_in (shape x) (text_of ts x) ≡ align trailing_comment (gaps_after_assign s c.end_comments-then-not-line.new.self (text_of ts x)) (text_of ts x) (column_of c.end_comments-then-not-line.new.self.comments)) (sym c.with_comment.ensures)
    (commented_gaps ts b n w (w - w + 1) None e.signed here (comment_at ts s.depth r b n p e.spans.0 e.spans.1 c.in-Some.is) (to_own w)
    ∙ ap (λ (gs : List ℕ). align trailing_comment gs text None) e.gaps
    ∙ ap (λ (x : Lines). align trailing_comment (gaps_after_assign s x text) text (column_of x.comments)) (sym c.end_comments-then-not-line.ensures))

pub comment_column-column-requires-clause-within : goal.comment_column-column-requires-clause-within
comment_column-column-requires-clause-within c =
    let ts = c.args.tokens.now.tokens in
    let r = c.args.line in
    let d = c.args.self.now.depth in
    let p = subst (λ k. IsLine ts k d (facts_in r)) (sym c.requires.first) c.requires.line in
    omega (arith, read_within ts d r p, comment_in ts d r p c.in-Some.number c.in-Some.is)

pub comment_column-column-requires-clause-after : goal.comment_column-column-requires-clause-after
comment_column-column-requires-clause-after c =
    let ts = c.args.tokens.now.tokens in
    let r = c.args.line in
    let d = c.args.self.now.depth in
    let p = subst (λ k. IsLine ts k d (facts_in r)) (sym c.requires.first) c.requires.line in
    omega (arith, comment_follows ts d r p c.in-Some.number c.in-Some.is)

pub returns-clause-laid : goal.returns-clause-laid
returns-clause-laid c =
    let ts = c.args.tokens.now.tokens in
    let r = c.args.line in
    let d = c.args.self.now.depth in
    let p = subst (λ k. IsLine ts k d (facts_in r)) (sym c.requires.first) c.requires.line in
    let b = c.pass_assign-laid.result in
    let w = c.comment_width-width.result in
    subst (Laid ts) (sym c.with_comment-2.ensures) (commented_laid ts b c.in-Some.number w (c.comment_column-column.result - w + 1) c.pass_assign-laid.ensures.laid (omega (arith, c.pass_assign-laid.ensures.spans.0, comment_follows ts d r p c.in-Some.number c.in-Some.is)) (omega (arith, c.comment_column-column.ensures.small)))

pub returns-clause-gaps : goal.returns-clause-gaps
returns-clause-gaps c =
    let ts = c.args.tokens.now.tokens in
    let s = c.args.self.now in
    let r = c.args.line in
    let p = subst (λ k. IsLine ts k s.depth (facts_in r)) (sym c.requires.first) c.requires.line in
    let b = c.pass_assign-laid.result in
    let n = c.in-Some.number in
    let w = c.comment_width-width.result in
    let column = c.comment_column-column.result in
    let e = c.pass_assign-laid.ensures in
    let text : List _ = text_of ts b in
    let here : n < b.end = omega (arith, e.spans.1, comment_in ts s.depth r p n c.in-Some.is) in
    subst (λ (x : LaidLine). gaps_in (shape x) (text_of ts x) ≡ align trailing_comment (gaps_after_assign s c.pass_assign-laid.new.self (text_of ts x)) (text_of ts x) (Some c.run_with.result.column)) (sym c.with_comment-2.ensures)
    (commented_gaps ts b n w (column - w + 1) (Some column) e.signed here (comment_at ts s.depth r b n p e.spans.0 e.spans.1 c.in-Some.is) (ap (λ k. column - k + 1) c.comment_width-width.ensures.value)
    ∙ ap (λ (gs : List ℕ). align trailing_comment gs text (Some column)) e.gaps
    ∙ ap (λ (k : ℕ). align trailing_comment (gaps_after_assign s c.pass_assign-laid.new.self text) text (Some k)) (sym c.run_with.ensures.column))
