use Rattle.std.proofs.Common.{◌++◌, ◌∙◌, ℕ, List, ap, arith, drop, length, length-drop, length-take, sym, refl}
use Rattle.hcl_tokens.specs.Scanned.{lexeme}
use Rattle.hcl_layout.specs.Inner.Depths.{BalancedFrom}
use Rattle.hcl_layout.specs.Inner.Laid.{gaps_after}
use Rattle.hcl_layout.specs.Inner.Left.{bytes_of}
use Rattle.hcl_layout.specs.declared.lines.Lines.{Lines}
use Rattle.hcl_layout.proofs.BalanceLemmas.{balanced_from}
use Rattle.hcl_layout.proofs.LaidLemmas.{stops_here}
use Rattle.hcl_layout.proofs.PrintedLemmas.{left_all, left_done, left_line, left_piece}
use Rattle.hcl_layout.proofs.WalkLemmas.{start_at}
use Rattle.hcl_layout.proofs.print.stands_in_place.Goals as goal

pub loop-line-init : goal.loop-line-init
loop-line-init c =
    let ts = c.args.tokens.now.tokens in
    let balanced : BalancedFrom 0 ts = balanced_from ts c.requires.balanced in
    let s = c.new-lines.result in
    let e = c.new-lines.ensures in
    let n = ap (λ (x : Lines). x.next) e in
    let d = ap (λ (x : Lines). x.depth) e in
    let v = ap (λ (x : Lines). x.levels) e in
    let a = ap (λ (x : Lines). x.assigns) e in
    let b = ap (λ (x : Lines). x.comments) e in
    record {
      lines = start_at ts s balanced c.source-source.ensures.bounded.tokens n d v a b;
      step = λ wrong right left. sym (left_all ts s balanced n d v a b) ∙ left;
      inside = omega arith;
    }

pub loop-number-init : goal.loop-number-init
loop-number-init c =
    let ts = c.args.tokens.now.tokens in
    let i = c.loop-line.invariant in
    record {
      stops = stops_here c.in-Some.line c.in-Some.line.first (λ a b. refl);
      step = λ right left. (let back = c.in-Some.ensures.right c.if-lines.false right in
          i.step back.0 back.1 (left_line ts c.loop-line.lines c.next.new.self c.in-Some.line back.2 c.in-Some.ensures.laid.1 ∙ left));
      order = omega arith;
      inside = i.inside;
    }

pub loop-number-preserved : goal.loop-number-preserved
loop-number-preserved c =
    let ts = c.args.tokens.now.tokens in
    let i = c.loop-number.invariant in
    let p = c.piece-next.result.0 in
    let source = c.source-source.result.now in
    let from = c.piece-next.ensures.source in
    let n = c.loop-number.number in
    record {
      stops = c.piece-next.ensures.stops;
      step = λ right left. i.step right (left_piece ts c.in-Some.line (gaps_after ts c.next.new.self) n p.gap (lexeme p.token) c.piece-next.ensures.token i.order c.loop-number-test.true c.piece-next.ensures.gap
          ∙ ap (λ (xs : List ℕ). bytes_of p ++ xs) left ∙ sym (c.stays_in_place.ensures.goes c.if-not-stays_in_place.false));
      order = omega (arith, i.order);
      inside = omega (arith, ap length from.0, length-take (length p.token.text.now) (drop p.token.start c.args.tokens.now.text), length-drop p.token.start c.args.tokens.now.text, from.1, ap length c.source-source.ensures.text);
    }

pub loop-line-preserved : goal.loop-line-preserved
loop-line-preserved c =
    let ts = c.args.tokens.now.tokens in
    let i = c.loop-number.invariant in
    let e = c.in-Some.ensures in
    record {
      lines = e.at.0;
      step = λ wrong right left. i.step right (left_done ts c.next.new.self c.in-Some.line c.loop-number.number (omega arith) (omega (arith, e.laid.0.some, e.laid.2)) ∙ left);
      inside = i.inside;
    }
