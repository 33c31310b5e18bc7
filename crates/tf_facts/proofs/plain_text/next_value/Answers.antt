use Rattle.std.proofs.Common.{◌∙◌, sym}
use Rattle.hcl_tokens.specs.Scanned.{lexeme}
use Rattle.tf_facts.proofs.ValueLemmas.{values_here, values_past}
use Rattle.tf_facts.proofs.plain_text.next_value.Goals as goal

pub returns-then-counts : goal.returns-then-counts
returns-then-counts c = record {
  first =
      sym c.loop-number.invariant
      ∙ values_here c.args.tokens.now.tokens c.loop-number.number c.args.to (lexeme c.get-token.result) c.get-token.ensures.token c.loop-number-test.true (sym c.counts.ensures ∙ c.if-counts.true);
  within = c.loop-number-test.true;
}

pub loop-number-preserved : goal.loop-number-preserved
loop-number-preserved c =
    sym (values_past c.args.tokens.now.tokens c.loop-number.number c.args.to (lexeme c.get-token.result) c.get-token.ensures.token c.loop-number-test.true (sym c.counts.ensures ∙ c.if-counts.false))
    ∙ c.loop-number.invariant
