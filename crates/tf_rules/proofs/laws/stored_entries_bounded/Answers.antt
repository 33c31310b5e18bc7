use Rattle.tf_rules.proofs.GrowthLemmas as lemma
use Rattle.tf_rules.proofs.laws.stored_entries_bounded.Goals as goal

pub returns : goal.returns
returns c = lemma.entries_grow
