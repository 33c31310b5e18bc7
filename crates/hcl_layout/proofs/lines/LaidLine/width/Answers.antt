use Rattle.std.proofs.Common.{arith}
use Rattle.hcl_tokens.specs.Scanned.{lexeme}
use Rattle.hcl_layout.proofs.LaidLemmas.{width_more}
use Rattle.hcl_layout.proofs.lines.LaidLine.width.Goals as goal

pub loop-k-init : goal.loop-k-init
loop-k-init c =
    let ts = c.args.tokens.now.tokens in
    let more = width_more ts c.args.self c.args.from c.args.number (lexeme c.get-token.result) c.get-token.ensures.token c.requires.begins c.requires.order c.requires.within in
    record {
      whole = omega (arith, more, c.own_gap.ensures.value, c.clusters.ensures.count);
      order = omega arith;
    }

pub loop-k-preserved : goal.loop-k-preserved
loop-k-preserved c =
    let ts = c.args.tokens.now.tokens in
    let more = width_more ts c.args.self c.loop-k.k c.args.number (lexeme c.get-token-in-loop-k.result) c.get-token-in-loop-k.ensures.token (omega (arith, c.requires.begins, c.loop-k.invariant.order)) c.loop-k-test.true c.requires.within in
    record {
      whole = omega (arith, more, c.loop-k.invariant.whole, c.other_gap.ensures.value, c.clusters-in-loop-k.ensures.count);
      order = omega (arith, c.loop-k.invariant.order);
    }

pub other_gap-requires-clause-comment : goal.other_gap-requires-clause-comment
other_gap-requires-clause-comment c = (c.requires.plain c.loop-k.k (omega (arith, c.loop-k.invariant.order)) (omega arith)).0

pub other_gap-requires-clause-assign : goal.other_gap-requires-clause-assign
other_gap-requires-clause-assign c = (c.requires.plain c.loop-k.k (omega (arith, c.loop-k.invariant.order)) (omega arith)).1
