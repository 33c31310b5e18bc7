use Rattle.std.proofs.Common.{◌∙◌, ap, min, ◌≡◌, arith}
use Rattle.hcl_syntax.specs.Inner.Segments.{newline_from}
use Rattle.hcl_syntax.proofs.OutlineLemmas.{items_begin, items_step, items_step_alone}
use Rattle.hcl_syntax.proofs.SegmentEndLemmas.{next_begins}
use Rattle.hcl_syntax.proofs.segments.+push_items.Goals as goal

pub loop-start-init : goal.loop-start-init
loop-start-init t c = record { items = items_begin c.args.tokens.now.tokens c.args.level c.args.from c.args.to c.args.items.now; begins = c.requires.begins }

pub loop-start-preserved-then-body : goal.loop-start-preserved-then-body
loop-start-preserved-then-body t c =
    let ts = c.args.tokens.now.tokens in
    let end : c.min-end.result ≡ min (newline_from ts 0 c.loop-start.start) c.args.to =
    c.min-end.ensures ∙ ap (λ n. min n c.args.to) (c.requires.ends.each c.loop-start.start (omega (arith, c.requires.within, c.loop-start-test.true)) (c.loop-start.invariant.begins c.loop-start-test.true)) in
    record {
      items = items_step_alone ts c.args.level c.args.from c.args.to c.args.items.now c.loop-start.items c.push_segment.new.items c.loop-start.start c.min-end.result c.in_ok-body.body c.loop-start-test.true end
          c.in_ok-body.ensures c.if-body.true c.loop-start.invariant.items;
      begins = λ more. next_begins ts c.loop-start.start c.args.to c.min-end.result end (omega (arith, more));
    }

pub loop-start-preserved : goal.loop-start-preserved
loop-start-preserved t c =
    let ts = c.args.tokens.now.tokens in
    let end : c.min-end.result ≡ min (newline_from ts 0 c.loop-start.start) c.args.to =
    c.min-end.ensures ∙ ap (λ n. min n c.args.to) (c.requires.ends.each c.loop-start.start (omega (arith, c.requires.within, c.loop-start-test.true)) (c.loop-start.invariant.begins c.loop-start-test.true)) in
    record {
      items = items_step ts c.args.level c.args.from c.args.to c.args.items.now c.loop-start.items c.push_segment.new.items c.push_items.new.items c.loop-start.start c.min-end.result c.in_ok-body.body c.loop-start-test.true end
          c.in_ok-body.ensures c.in_ok-push_items.ensures c.loop-start.invariant.items;
      begins = λ more. next_begins ts c.loop-start.start c.args.to c.min-end.result end (omega (arith, more));
    }
