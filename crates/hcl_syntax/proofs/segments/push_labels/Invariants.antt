use Rattle.std.proofs.Common.{◌≡◌}
use Rattle.hcl_grammar.specs.Items.{after_brace}
use Rattle.hcl_syntax.specs.Inner.Segments.{words}
use Rattle.hcl_syntax.proofs.LabelLemmas.{AreLabels}
use Rattle.hcl_syntax.proofs.segments.push_labels.Given as goal

abbrev pub invariant-loop-number : goal.invariant-loop-number
invariant-loop-number l = record {
  labels : AreLabels l.tokens.tokens l.from l.to l.fn.items l.items l.number;
  after : after_brace (words l.tokens.tokens l.number l.to) ≡ after_brace (words l.tokens.tokens l.from l.to);
}
