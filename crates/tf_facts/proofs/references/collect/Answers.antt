use Rattle.std.proofs.Common.{◌∙◌, ◌+◌, ◌<◌, sym, map, refl, length, arith}
use Rattle.hcl_tokens.specs.Scanned.{lexeme}
use Rattle.tf_facts.specs.Seen.{after_dot}
use Rattle.tf_facts.specs.Inner.Blocks.{block_view}
use Rattle.tf_facts.proofs.CollectLemmas.{begins, collected, no_after, over_no_idents, skipped}
use Rattle.tf_facts.proofs.OwnLemmas.{nothing_passed, still_passed}
use Rattle.tf_facts.proofs.PatternLemmas.{there_is}
use Rattle.tf_facts.proofs.SeenLemmas.{after_seen, word_seen}
use Rattle.tf_facts.proofs.references.collect.Goals as goal

pub loop-next-init : goal.loop-next-init
loop-next-init c =
    let own = map block_view c.args.blocks.now in
    let ts = c.args.tokens.now.tokens in
    record {
      walked = record {
        collected = over_no_idents own ts c.args.into.now c.args.into.now 0 c.next_ident-next.result (omega arith) c.next_ident-next.ensures.within c.next_ident-next.ensures.none (begins own ts c.args.into.now);
        passed = still_passed own 0 0 c.next_ident-next.result (omega arith) (nothing_passed own);
        within = omega arith;
      };
      within = c.next_ident-next.ensures.within;
      ident = c.next_ident-next.ensures.ident;
    }

pub loop-next-preserved-then-not-may_be_named : goal.loop-next-preserved-then-not-may_be_named
loop-next-preserved-then-not-may_be_named c =
    let own = map block_view c.args.blocks.now in
    let ts = c.args.tokens.now.tokens in
    let n = c.loop-next.next in
    let less : n < length ts = omega (arith, c.loop-next-test.true, c.len-count.ensures.len) in
    let t = there_is ts n less in
    let seen = word_seen t.0.kind (c.loop-next.invariant.ident t.0 t.1) in
    let dot = after_seen ts n (n + 1) refl t.0 t.1 seen in
    let next = c.next_ident-next-in-loop-next.ensures in
    record {
      walked = record {
        collected = over_no_idents own ts c.args.into.now c.loop-next.into (n + 1) c.next_ident-next-in-loop-next.result next.order next.within next.none
            (no_after own ts c.args.into.now c.loop-next.into (after_dot ts n) (after_dot ts (n + 1)) n t.0 t.1 seen (c.may_be_named.ensures c.if-not-may_be_named.true) dot c.loop-next.invariant.walked.collected);
        passed = still_passed own c.loop-next.passed_blocks n c.next_ident-next-in-loop-next.result (omega (arith, next.order)) c.loop-next.invariant.walked.passed;
        within = c.loop-next.invariant.walked.within;
      };
      within = next.within;
      ident = next.ident;
    }

pub loop-next-preserved-then-is_after_dot : goal.loop-next-preserved-then-is_after_dot
loop-next-preserved-then-is_after_dot c =
    let own = map block_view c.args.blocks.now in
    let ts = c.args.tokens.now.tokens in
    let n = c.loop-next.next in
    let less : n < length ts = omega (arith, c.loop-next-test.true, c.len-count.ensures.len) in
    let t = there_is ts n less in
    let seen = word_seen t.0.kind (c.loop-next.invariant.ident t.0 t.1) in
    let dot = after_seen ts n (n + 1) refl t.0 t.1 seen in
    let next = c.next_ident-next-in-loop-next.ensures in
    record {
      walked = record {
        collected = over_no_idents own ts c.args.into.now c.loop-next.into (n + 1) c.next_ident-next-in-loop-next.result next.order next.within next.none
            (skipped own ts c.args.into.now c.loop-next.into c.loop-next.into (after_dot ts n) (after_dot ts (n + 1)) n t.0 t.1 seen (sym c.is_after_dot.ensures ∙ c.if-is_after_dot.true) dot refl c.loop-next.invariant.walked.collected);
        passed = still_passed own c.loop-next.passed_blocks n c.next_ident-next-in-loop-next.result (omega (arith, next.order)) c.loop-next.invariant.walked.passed;
        within = c.loop-next.invariant.walked.within;
      };
      within = next.within;
      ident = next.ident;
    }

pub loop-next-preserved : goal.loop-next-preserved
loop-next-preserved c =
    let own = map block_view c.args.blocks.now in
    let ts = c.args.tokens.now.tokens in
    let n = c.loop-next.next in
    let t = lexeme c.get-token.result in
    let e = c.get-token.ensures.token in
    let seen = word_seen t.kind (c.loop-next.invariant.ident t e) in
    let dot = after_seen ts n (n + 1) refl t e seen in
    let next = c.next_ident-next-in-loop-next.ensures in
    record {
      walked = record {
        collected = over_no_idents own ts c.args.into.now c.insert_reference.new.into (n + 1) c.next_ident-next-in-loop-next.result next.order next.within next.none
            (collected own ts c.args.into.now c.loop-next.into c.insert_reference.new.into c.insert_reference.new.into (after_dot ts n) (after_dot ts (n + 1)) n t e seen (sym c.is_after_dot.ensures ∙ c.if-is_after_dot.false) dot refl c.in_ok-insert_reference.ensures.ok c.loop-next.invariant.walked.collected);
        passed = still_passed own c.count_passed-passed_blocks.result n c.next_ident-next-in-loop-next.result (omega (arith, next.order)) c.count_passed-passed_blocks.ensures.passed;
        within = c.count_passed-passed_blocks.ensures.within;
      };
      within = next.within;
      ident = next.ident;
    }
