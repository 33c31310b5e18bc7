use Rattle.tf_names.proofs.AgreementLemmas as lemma
use Rattle.tf_names.proofs.laws.declarations_are_the_linters.Goals as goal

pub returns : goal.returns
returns c = lemma.declarations_are_the_linters
