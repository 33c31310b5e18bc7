use Rattle.std.proofs.Common.{◌∙◌, arith, sym}
use Rattle.hcl_tokens.specs.Scanned.{lexeme}
use Rattle.hcl_syntax.proofs.SegmentEndLemmas.{brace_begins}
use Rattle.hcl_syntax.proofs.SoughtLemmas.{brace_here, brace_past}
use Rattle.hcl_syntax.proofs.LabelLemmas.{labels_brace, labels_more}
use Rattle.hcl_syntax.proofs.segments.push_labels.Goals as goal

pub returns-then-is_brace_open-clause-labels : goal.returns-then-is_brace_open-clause-labels
returns-then-is_brace_open-clause-labels c =
    labels_brace c.args.tokens.now.tokens c.args.from c.args.to c.args.items.now c.loop-number.items c.loop-number.number (lexeme c.get-token.result) c.get-token.ensures.token c.loop-number-test.true
    (sym c.is_brace_open.ensures ∙ c.if-is_brace_open.true) c.loop-number.invariant.labels

pub returns-then-is_brace_open-clause-after : goal.returns-then-is_brace_open-clause-after
returns-then-is_brace_open-clause-after c =
    let ts = c.args.tokens.now.tokens in
    let brace = sym c.is_brace_open.ensures ∙ c.if-is_brace_open.true in
    record {
      is = sym (brace_here ts c.loop-number.number c.args.to (lexeme c.get-token.result) c.get-token.ensures.token c.loop-number-test.true brace) ∙ c.loop-number.invariant.after;
      from_on = omega (arith, c.loop-number.auto.number);
      within = omega (arith, c.loop-number-test.true);
      begins = λ _. brace_begins ts c.loop-number.number (lexeme c.get-token.result) c.get-token.ensures.token brace;
    }

pub loop-number-preserved : goal.loop-number-preserved
loop-number-preserved c =
    let ts = c.args.tokens.now.tokens in
    let other = sym c.is_brace_open.ensures ∙ c.if-is_brace_open.false in
    record {
      labels = labels_more ts c.args.from c.args.to c.args.items.now c.loop-number.items c.loop-number.number (lexeme c.get-token.result) c.push_label_at.new.items c.get-token.ensures.token
          c.loop-number-test.true other c.in_ok-push_label_at.ensures c.loop-number.invariant.labels;
      after = sym (brace_past ts c.loop-number.number c.args.to (lexeme c.get-token.result) c.get-token.ensures.token c.loop-number-test.true other) ∙ c.loop-number.invariant.after;
    }
