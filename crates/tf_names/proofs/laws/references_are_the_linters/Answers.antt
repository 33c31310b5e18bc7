use Rattle.tf_names.proofs.AgreementLemmas as lemma
use Rattle.tf_names.proofs.laws.references_are_the_linters.Goals as goal

pub returns : goal.returns
returns c = lemma.references_are_the_linters
