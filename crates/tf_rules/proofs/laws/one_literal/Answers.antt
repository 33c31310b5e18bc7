use Rattle.tf_rules.proofs.PlainLabelLemmas as lemma
use Rattle.tf_rules.proofs.laws.one_literal.Goals as goal

pub returns : goal.returns
returns c = lemma.one_literal
