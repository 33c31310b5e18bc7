use Rattle.std.proofs.Common.{◌≡◌, ◌<◌, ◌+◌, ◌++◌, ◌∙◌, ℕ, List, [], Option, arith, ap, drop, length, refl, subst, sym, take, length-append, replicate}
use Rattle.std.specs.Io.KnownBytes.{Appends}
use Rattle.std.proofs.lemmas.List.{length-replicate}
use Rattle.hcl_tokens.specs.Scanned.{Scanned, lexeme}
use Rattle.hcl_tokens.specs.Balanced.{IsBalanced}
use Rattle.hcl_layout.specs.Inner.Depths.{BalancedFrom}
use Rattle.hcl_layout.specs.Inner.Laid.{gaps_after, left_after, left_on}
use Rattle.hcl_layout.specs.Inner.Left.{bytes_of}
use Rattle.hcl_layout.specs.Inner.Out.{Out, CutShort, stretch_text}
use Rattle.hcl_layout.specs.Print.{print}
use Rattle.hcl_layout.specs.declared.lines.Lines.{Lines}
use Rattle.hcl_layout.proofs.BalanceLemmas.{balanced_from}
use Rattle.hcl_layout.proofs.OutLemmas.{err_by, grown, ok_to, out_none, print_end, print_grown, print_put, cut_short_print}
use Rattle.hcl_layout.proofs.LaidLemmas.{stops_here}
use Rattle.hcl_layout.proofs.PrintedLemmas.{left_all, left_done, left_line, left_piece}
use Rattle.hcl_layout.proofs.WalkLemmas.{start_at}
use Rattle.hcl_layout.proofs.writer.emit.Goals as goal

pub loop-line-init : goal.loop-line-init
loop-line-init g c =
    let ts = c.new-tokens.result.tokens in
    let balanced : BalancedFrom 0 ts = balanced_from ts (subst (λ (s : Scanned). IsBalanced s.tokens) (sym c.new-tokens.ensures.same) c.new-tokens.ensures.balanced) in
    let s = c.new-lines.result in
    let e = c.new-lines.ensures in
    let n = ap (λ (x : Lines). x.next) e in
    let d = ap (λ (x : Lines). x.depth) e in
    let v = ap (λ (x : Lines). x.levels) e in
    let a = ap (λ (x : Lines). x.assigns) e in
    let b = ap (λ (x : Lines). x.comments) e in
    record {
      at = start_at ts s balanced c.source-source.ensures.bounded.tokens n d v a b;
      ahead = ap (λ (x : Lines). x.columns) e;
      fresh = c.requires;
      out = ([], sym (left_all ts s balanced n d v a b), out_none (g.W.ByteSink.taken c.args.to.now) c.new-buffer.result c.new-buffer.ensures.len c.new-buffer.ensures.sent);
      lies = (omega arith, omega arith);
      small = omega (arith, c.new-buffer.ensures.len, c.new-buffer.ensures.sent);
      flushes = refl;
    }

pub loop-number-init : goal.loop-number-init
loop-number-init g c =
    let ts = c.new-tokens.result.tokens in
    let i = c.loop-line.invariant in
    let o = i.out in
    let l = c.in-Some.line in
    record {
      stops = stops_here c.in-Some.line c.in-Some.line.first (λ a b. refl);
      order = omega arith;
      fresh = i.fresh;
      out = (
        o.0,
        o.1 ∙ ap (λ xs. o.0 ++ (stretch_text c.source-source.result.now c.loop-line.waiting ++ xs)) (left_line ts c.loop-line.lines c.next.new.self l (c.in-Some.ensures.left i.ahead) c.in-Some.ensures.laid.1),
        o.2,
      );
      lies = i.lies;
      small = omega (arith, i.small, c.in-Some.ensures.laid.1);
      flushes = i.flushes;
    }

pub loop-number-preserved-then-stays_in_place : goal.loop-number-preserved-then-stays_in_place
loop-number-preserved-then-stays_in_place g c =
    let ts = c.new-tokens.result.tokens in
    let i = c.loop-number.invariant in
    let o = i.out in
    let source = c.source-source.result.now in
    let w = c.loop-number.waiting in
    let p = c.piece-next.result.0 in
    let l = c.in-Some.line in
    let rest = gaps_after ts c.next.new.self in
    let n = c.loop-number.number in
    let piece : List ℕ = bytes_of p in
    let left = left_piece ts l rest n p.gap (lexeme p.token) c.piece-next.ensures.token i.order c.loop-number-test.true c.piece-next.ensures.gap in
    let at = c.stays_in_place.ensures.end c.if-stays_in_place.true in
    let end : c.stretch_of-alone.result.end ≡ w.end + length piece = omega (arith, at, c.stretch_of-alone.ensures.end, length-append (replicate p.gap 32) p.token.text.now, length-replicate {A = ℕ} p.gap 32) in
    let there = c.stays_in_place.ensures.goes c.if-stays_in_place.true ∙ ap (λ k. piece ++ drop k source) (sym c.stretch_of-alone.ensures.end) in
    record {
      stops = c.piece-next.ensures.stops;
      order = omega (arith, i.order);
      fresh = i.fresh;
      out = (
        o.0,
        print_grown (print ts) o.0 (stretch_text source w) _ piece (left_on ts l rest n) (left_on ts l rest (n + 1)) o.1 left
            (grown source w piece c.stretch_of-alone.result.end i.lies.0 end there),
        o.2,
      );
      lies = (omega (arith, end, i.lies.0), c.stretch_of-alone.ensures.lies.1);
      small = omega (arith, end, at, c.stretch_of-alone.ensures.end, c.piece-next.ensures.small, c.piece-next.ensures.text, i.small, i.lies.0);
      flushes = i.flushes;
    }

pub loop-number-preserved : goal.loop-number-preserved
loop-number-preserved g c =
    let ts = c.new-tokens.result.tokens in
    let i = c.loop-number.invariant in
    let o = i.out in
    let source = c.source-source.result.now in
    let p = c.piece-next.result.0 in
    let l = c.in-Some.line in
    let rest = gaps_after ts c.next.new.self in
    let n = c.loop-number.number in
    let alone = c.stretch_of-alone.result in
    let text : List ℕ = stretch_text source c.loop-number.waiting in
    let left = left_piece ts l rest n p.gap (lexeme p.token) c.piece-next.ensures.token i.order c.loop-number-test.true c.piece-next.ensures.gap in
    record {
      stops = c.piece-next.ensures.stops;
      order = omega (arith, i.order);
      fresh = c.in_default-push_stretch.ensures.failed;
      out = (
        o.0 ++ text,
        print_put (print ts) o.0 text (stretch_text source alone) (bytes_of p) (left_on ts l rest n) (left_on ts l rest (n + 1)) o.1 left c.stretch_of-alone.ensures.same,
        c.in_default-push_stretch.ensures.ok (g.W.ByteSink.taken c.args.to.now) o.0 o.2,
      );
      lies = c.stretch_of-alone.ensures.lies;
      small = omega (arith, c.in_default-push_stretch.ensures.count, c.stretch_of-alone.ensures.gap, c.stretch_of-alone.ensures.len, c.piece-next.ensures.small, c.piece-next.ensures.text, i.small);
      flushes = c.in_default-push_stretch.ensures.flushes ∙ i.flushes;
    }

pub returns-in-Err-clause-err : goal.returns-in-Err-clause-err
returns-in-Err-clause-err g c =
    let ts = c.new-tokens.result.tokens in
    let o = c.loop-number.invariant.out in
    let base = g.W.ByteSink.taken c.args.to.now in
    let stop = cut_short_print base (g.W.ByteSink.taken c.push_stretch.new.to) (print ts) o.0 (stretch_text c.source-source.result.now c.loop-number.waiting) (left_on ts c.in-Some.line (gaps_after ts c.next.new.self) c.loop-number.number) c.in-Err.fault o.1 (c.in-Err.ensures.err base o.0 o.2) in
    subst (λ (s : Scanned). Appends base (g.W.ByteSink.taken c.push_stretch.new.to) (take c.in-Err.fault.written (print s.tokens))) c.new-tokens.ensures.same stop.1

pub returns-in-Err-clause-written : goal.returns-in-Err-clause-written
returns-in-Err-clause-written g c =
    let ts = c.new-tokens.result.tokens in
    let o = c.loop-number.invariant.out in
    let base = g.W.ByteSink.taken c.args.to.now in
    let stop = cut_short_print base (g.W.ByteSink.taken c.push_stretch.new.to) (print ts) o.0 (stretch_text c.source-source.result.now c.loop-number.waiting) (left_on ts c.in-Some.line (gaps_after ts c.next.new.self) c.loop-number.number) c.in-Err.fault o.1 (c.in-Err.ensures.err base o.0 o.2) in
    subst (λ (s : Scanned). c.in-Err.fault.written < length (print s.tokens)) c.new-tokens.ensures.same stop.0

pub loop-line-preserved : goal.loop-line-preserved
loop-line-preserved g c =
    let ts = c.new-tokens.result.tokens in
    let i = c.loop-number.invariant in
    let o = i.out in
    let e = c.in-Some.ensures in
    record {
      at = e.at.0;
      ahead = e.at.1 ∙ c.loop-line.invariant.ahead;
      fresh = i.fresh;
      out = (
        o.0,
        o.1 ∙ ap (λ xs. o.0 ++ (stretch_text c.source-source.result.now c.loop-number.waiting ++ xs)) (left_done ts c.next.new.self c.in-Some.line c.loop-number.number (omega arith) (omega (arith, e.laid.0.some, e.laid.2))),
        o.2,
      );
      lies = i.lies;
      small = omega (arith, i.small, e.laid.0.some, e.laid.2);
      flushes = i.flushes;
    }

pub returns-clause-ok : goal.returns-clause-ok
returns-clause-ok g c =
    let ts = c.new-tokens.result.tokens in
    let o = c.loop-line.invariant.out in
    let base = g.W.ByteSink.taken c.args.to.now in
    let text : List ℕ = stretch_text c.source-source.result.now c.loop-line.waiting in
    let all : o.0 ++ text ≡ print c.args.accepted.now.tokens = print_end (print ts) o.0 text (left_after ts c.loop-line.lines) o.1 c.in_default.ensures.done ∙ ap (λ (s : Scanned). print s.tokens) c.new-tokens.ensures.same in
    ok_to c.finish.result
    ((base : Option (List ℕ)) (front : List ℕ) → Out base (g.W.ByteSink.taken c.loop-line.to) c.loop-line.buffer front → Appends base (g.W.ByteSink.taken c.finish.new.to) (front ++ text))
    (Appends base (g.W.ByteSink.taken c.finish.new.to) (print c.args.accepted.now.tokens))
    (λ f. subst (Appends base (g.W.ByteSink.taken c.finish.new.to)) all (f base o.0 o.2)) c.finish.ensures.ok

pub returns-clause-err : goal.returns-clause-err
returns-clause-err g c =
    let ts = c.new-tokens.result.tokens in
    let o = c.loop-line.invariant.out in
    let base = g.W.ByteSink.taken c.args.to.now in
    let text : List ℕ = stretch_text c.source-source.result.now c.loop-line.waiting in
    let all : o.0 ++ text ≡ print c.args.accepted.now.tokens = print_end (print ts) o.0 text (left_after ts c.loop-line.lines) o.1 c.in_default.ensures.done ∙ ap (λ (s : Scanned). print s.tokens) c.new-tokens.ensures.same in
    err_by c.finish.result
    (λ fault. (base : Option (List ℕ)) (front : List ℕ) → Out base (g.W.ByteSink.taken c.loop-line.to) c.loop-line.buffer front → CutShort base (g.W.ByteSink.taken c.finish.new.to) (front ++ text) fault)
    (λ fault. Appends base (g.W.ByteSink.taken c.finish.new.to) (take fault.written (print c.args.accepted.now.tokens)))
    (λ fault q. subst (λ l. Appends base (g.W.ByteSink.taken c.finish.new.to) (take fault.written l)) all (q base o.0 o.2).1) c.finish.ensures.err

pub returns-clause-written : goal.returns-clause-written
returns-clause-written g c =
    let ts = c.new-tokens.result.tokens in
    let o = c.loop-line.invariant.out in
    let base = g.W.ByteSink.taken c.args.to.now in
    let text : List ℕ = stretch_text c.source-source.result.now c.loop-line.waiting in
    let all : o.0 ++ text ≡ print c.args.accepted.now.tokens = print_end (print ts) o.0 text (left_after ts c.loop-line.lines) o.1 c.in_default.ensures.done ∙ ap (λ (s : Scanned). print s.tokens) c.new-tokens.ensures.same in
    err_by c.finish.result
    (λ fault. (base : Option (List ℕ)) (front : List ℕ) → Out base (g.W.ByteSink.taken c.loop-line.to) c.loop-line.buffer front → CutShort base (g.W.ByteSink.taken c.finish.new.to) (front ++ text) fault)
    (λ fault. fault.written < length (print c.args.accepted.now.tokens))
    (λ fault q. subst (λ l. fault.written < length l) all (q base o.0 o.2).0) c.finish.ensures.err
