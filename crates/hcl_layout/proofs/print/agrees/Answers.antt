use Rattle.std.proofs.Common.{◌≡◌, ◌+◌, ◌∙◌, ℕ, List, true, false, ap, arith, length, refl, subst, sym}
use Rattle.std.specs.Prelude.{◌↔◌, IsTrue, nat_eq}
use Rattle.hcl_tokens.specs.Scanned.{lexeme}
use Rattle.hcl_layout.specs.Inner.Depths.{BalancedFrom}
use Rattle.hcl_layout.specs.Inner.Laid.{gaps_after, left_after, left_on}
use Rattle.hcl_layout.specs.Inner.Left.{bytes_of}
use Rattle.hcl_layout.specs.Print.{print}
use Rattle.hcl_layout.specs.declared.lines.Lines.{Lines}
use Rattle.hcl_layout.proofs.BalanceLemmas.{balanced_from}
use Rattle.hcl_layout.proofs.FormatLemmas.{Agrees, agrees_all, agrees_end, agrees_more, differs}
use Rattle.hcl_layout.proofs.LaidLemmas.{stops_here}
use Rattle.hcl_layout.proofs.PrintedLemmas.{left_all, left_done, left_line, left_piece}
use Rattle.hcl_layout.proofs.WalkLemmas.{start_at}
use Rattle.hcl_layout.proofs.print.agrees.Goals as goal

pub loop-line-init : goal.loop-line-init
loop-line-init c =
    let ts = c.args.tokens.now.tokens in
    let balanced : BalancedFrom 0 ts = balanced_from ts c.requires.balanced in
    let s = c.new-lines.result in
    let e = c.new-lines.ensures in
    let n = ap (λ (x : Lines). x.next) e in
    let d = ap (λ (x : Lines). x.depth) e in
    let v = ap (λ (x : Lines). x.levels) e in
    let a = ap (λ (x : Lines). x.assigns) e in
    let b = ap (λ (x : Lines). x.comments) e in
    record {
      lines = start_at ts s balanced c.source-bytes.ensures.bounded.tokens n d v a b;
      ahead = ap (λ (x : Lines). x.columns) e;
      same = agrees_all (print ts) c.source-bytes.result.now (left_after ts s) (left_all ts s balanced n d v a b);
      inside = omega arith;
    }

pub loop-number-init : goal.loop-number-init
loop-number-init c =
    let ts = c.args.tokens.now.tokens in
    let i = c.loop-line.invariant in
    record {
      stops = stops_here c.in-Some.line c.in-Some.line.first (λ a b. refl);
      same = subst (λ (xs : List ℕ). Agrees (print ts) c.source-bytes.result.now xs c.loop-line.at) (left_line ts c.loop-line.lines c.next.new.self c.in-Some.line (c.in-Some.ensures.left i.ahead) c.in-Some.ensures.laid.1) i.same;
      order = omega arith;
      inside = i.inside;
    }

pub loop-line-preserved : goal.loop-line-preserved
loop-line-preserved c =
    let ts = c.args.tokens.now.tokens in
    let i = c.loop-number.invariant in
    let e = c.in-Some.ensures in
    record {
      lines = e.at.0;
      ahead = e.at.1 ∙ c.loop-line.invariant.ahead;
      same = subst (λ (xs : List ℕ). Agrees (print ts) c.source-bytes.result.now xs c.loop-number.at) (left_done ts c.next.new.self c.in-Some.line c.loop-number.number (omega arith) (omega (arith, e.laid.0.some, e.laid.2))) i.same;
      inside = i.inside;
    }

pub returns : goal.returns
returns c =
    let ts = c.args.tokens.now.tokens in
    let bytes = c.source-bytes.result.now in
    let at = c.loop-line.at in
    subst (λ (x : List ℕ). IsTrue (nat_eq at (length bytes)) ↔ (print ts ≡ x)) c.source-bytes.ensures.text
    (agrees_end (print ts) bytes (left_after ts c.loop-line.lines) at (nat_eq at (length bytes)) c.in_default.ensures.done c.loop-line.invariant.inside refl c.loop-line.invariant.same)

never : false ≡ true → ⊥
never e = cc

pub returns-in_default-piece_end : goal.returns-in_default-piece_end
returns-in_default-piece_end c =
    let ts = c.args.tokens.now.tokens in
    let i = c.loop-number.invariant in
    let l = c.in-Some.line in
    let p = c.piece-next.result.0 in
    let n = c.loop-number.number in
    let rest = gaps_after ts c.next.new.self in
    let left = left_piece ts l rest n p.gap (lexeme p.token) c.piece-next.ensures.token i.order c.loop-number-test.true c.piece-next.ensures.gap in (
      λ t. absurd (never t),
      λ q. absurd (differs (print ts) c.source-bytes.result.now (bytes_of p) (left_on ts l rest n) (left_on ts l rest (n + 1)) c.loop-number.at left c.in_default-piece_end.ensures.found i.same (q ∙ sym c.source-bytes.ensures.text)),
    )

pub loop-number-preserved : goal.loop-number-preserved
loop-number-preserved c =
    let ts = c.args.tokens.now.tokens in
    let i = c.loop-number.invariant in
    let l = c.in-Some.line in
    let p = c.piece-next.result.0 in
    let n = c.loop-number.number in
    let rest = gaps_after ts c.next.new.self in
    let left = left_piece ts l rest n p.gap (lexeme p.token) c.piece-next.ensures.token i.order c.loop-number-test.true c.piece-next.ensures.gap in
    record {
      stops = c.piece-next.ensures.stops;
      same = agrees_more (print ts) c.source-bytes.result.now (bytes_of p) (left_on ts l rest n) (left_on ts l rest (n + 1)) c.loop-number.at c.in-Some-piece_end.end left c.in-Some-piece_end.ensures.found i.same;
      order = omega (arith, i.order);
      inside = c.in-Some-piece_end.ensures.within;
    }
