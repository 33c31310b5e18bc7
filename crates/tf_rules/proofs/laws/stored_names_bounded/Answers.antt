use Rattle.tf_rules.proofs.NameGrowthLemmas as lemma
use Rattle.tf_rules.proofs.laws.stored_names_bounded.Goals as goal

pub returns : goal.returns
returns c = lemma.names_grow
