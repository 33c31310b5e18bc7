use Rattle.std.proofs.Common.{◌∙◌, arith, sym}
use Rattle.tf_facts.proofs.CollectLemmas.{no_ident_more}
use Rattle.tf_facts.proofs.references.next_ident.Goals as goal

pub loop-number-preserved : goal.loop-number-preserved
loop-number-preserved c = record {
  order = omega (arith, c.loop-number.invariant.order);
  within = omega (arith, c.loop-number-test.true, c.len-count.ensures.len);
  none = no_ident_more c.args.tokens.now.tokens c.args.from c.loop-number.number c.kind.result c.kind.ensures (sym c.is_ident.ensures ∙ c.if-is_ident.false) c.loop-number.invariant.none;
}
