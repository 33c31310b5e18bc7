use Rattle.tf_facts.proofs.OwnLemmas as lemma
use Rattle.tf_facts.proofs.laws.variable_blocks_are_disjoint.Goals as goal

pub returns : goal.returns
returns c = lemma.variable_blocks_are_disjoint
