use Rattle.tf_rules.proofs.StoredLemmas as lemma
use Rattle.tf_rules.proofs.laws.issues_of_stored.Goals as goal

pub returns : goal.returns
returns c = lemma.issues_of_kept_is
