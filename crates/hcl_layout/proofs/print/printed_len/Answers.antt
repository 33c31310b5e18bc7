use Rattle.std.proofs.Common.{◌+◌, ap, arith, length, subst, sym}
use Rattle.hcl_tokens.specs.Scanned.{Scanned, lexeme}
use Rattle.hcl_tokens.specs.Balanced.{IsBalanced}
use Rattle.hcl_layout.specs.Inner.Depths.{BalancedFrom}
use Rattle.hcl_layout.specs.Inner.Laid.{gaps_after, left_on}
use Rattle.hcl_layout.specs.declared.lines.Lines.{Lines}
use Rattle.hcl_layout.proofs.BalanceLemmas.{balanced_from}
use Rattle.hcl_layout.proofs.PrintedLemmas.{left_all, left_piece, piece_len}
use Rattle.hcl_layout.proofs.WalkLemmas.{start_at}
use Rattle.hcl_layout.proofs.print.printed_len.Goals as goal

pub loop-line-init : goal.loop-line-init
loop-line-init c =
    let ts = c.new-tokens.result.tokens in
    let balanced : BalancedFrom 0 ts = balanced_from ts (subst (λ (s : Scanned). IsBalanced s.tokens) (sym c.new-tokens.ensures.same) c.new-tokens.ensures.balanced) in
    let s = c.new-lines.result in
    let e = c.new-lines.ensures in
    let n = ap (λ (x : Lines). x.next) e in
    let d = ap (λ (x : Lines). x.depth) e in
    let v = ap (λ (x : Lines). x.levels) e in
    let a = ap (λ (x : Lines). x.assigns) e in
    let b = ap (λ (x : Lines). x.comments) e in
    record {
      at = start_at ts s balanced c.source-source.ensures.bounded.tokens n d v a b;
      ahead = ap (λ (x : Lines). x.columns) e;
      whole = omega (arith, ap length (left_all ts s balanced n d v a b));
      small = omega arith;
    }

pub loop-number-preserved : goal.loop-number-preserved
loop-number-preserved c =
    let ts = c.new-tokens.result.tokens in
    let l = c.in-Some.line in
    let rest = gaps_after ts c.next.new.self in
    let n = c.loop-number.number in
    let t = lexeme c.piece-next.result.0.token in
    let gap = c.piece-next.result.0.gap in
    let piece = piece_len (left_on ts l rest n) t.text (left_on ts l rest (n + 1)) gap (left_piece ts l rest n gap t c.piece-next.ensures.token c.loop-number.invariant.order c.loop-number-test.true c.piece-next.ensures.gap) in
    record {
      stops = c.piece-next.ensures.stops;
      whole = omega (arith, piece, c.loop-number.invariant.whole);
      small = omega (arith, c.loop-number.invariant.small, c.piece-next.ensures.small, c.piece-next.ensures.text);
      order = omega (arith, c.loop-number.invariant.order);
    }
