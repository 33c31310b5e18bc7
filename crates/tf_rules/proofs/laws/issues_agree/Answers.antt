use Rattle.tf_rules.proofs.AgreementLemmas as lemma
use Rattle.tf_rules.proofs.laws.issues_agree.Goals as goal

pub returns : goal.returns
returns c = lemma.agree
