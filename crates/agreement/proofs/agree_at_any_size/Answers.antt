use Rattle.agreement.proofs.AgreeLemmas as lemma
use Rattle.agreement.proofs.agree_at_any_size.Goals as goal

pub returns-clause-accepted : goal.returns-clause-accepted
returns-clause-accepted c = lemma.prints_accepted

pub returns-clause-reports : goal.returns-clause-reports
returns-clause-reports c = lemma.reports_again
