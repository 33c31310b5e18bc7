use Rattle.hcl_grammar.proofs.TopBlockLemmas as lemma
use Rattle.hcl_grammar.proofs.laws.blocks_are_disjoint.Goals as goal

pub returns : goal.returns
returns c = lemma.tops_disjoint
