use Rattle.std.proofs.Common.{◌≡◌, ◌∙◌, ◌-◌, ◌++◌, ℕ, List, ap, ap₂, drop, subst, sym, take}
use Rattle.hcl_layout.specs.Inner.Laid.{RunsGrow, gaps_after, laid_gaps, text_of}
use Rattle.hcl_layout.specs.Inner.Survey.{IsLine, facts_in}
use Rattle.hcl_layout.specs.Lines.{Line}
use Rattle.hcl_layout.proofs.PassLemmas.{text_in}
use Rattle.hcl_layout.proofs.RightLemmas.{front_gaps, right_step}
use Rattle.hcl_layout.proofs.lines.Lines.next.Goals as goal

pub returns-clause-right : goal.returns-clause-right
returns-clause-right c wrong right =
    let ts = c.args.tokens.now.tokens in
    let old = c.args.self.now in
    let new = c.pass_line.new.self in
    let r = c.line_at-line.result in
    let l = c.pass_line.result in
    let e = c.pass_line.ensures in
    let p = subst (λ k. IsLine ts k old.depth (facts_in r)) (sym c.line_at-line.ensures.first) c.line_at-line.ensures.line in
    let text : text_of ts l ≡ text_in ts r = ap₂ (λ (x y : ℕ). take (y - x) (drop x ts)) e.spans.0 e.spans.1 in
    let step = right_step ts old new r p c.line_at-line.ensures.first e.moved.0 (subst (λ (t : Line). RunsGrow old t new) text e.runs) wrong right in
    (step.0, step.1, step.2 ∙ ap (λ (gs : List ℕ). gs ++ gaps_after ts new) (ap (laid_gaps old new) (sym text) ∙ sym e.gaps ∙ front_gaps ts l))
