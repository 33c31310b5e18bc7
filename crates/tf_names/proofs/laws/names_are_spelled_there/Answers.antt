use Rattle.tf_names.proofs.SpelledLemmas as lemma
use Rattle.tf_names.proofs.laws.names_are_spelled_there.Goals as goal

pub returns : goal.returns
returns c = lemma.names_are_spelled_there
