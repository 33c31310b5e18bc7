use Rattle.tf_rules.proofs.StoredLemmas as lemma
use Rattle.tf_rules.proofs.laws.stored_of_more.Goals as goal

pub returns : goal.returns
returns c = lemma.stored_of_more
