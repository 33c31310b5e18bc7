use Rattle.agreement.proofs.AgreeLemmas as lemma
use Rattle.agreement.proofs.agree.Goals as goal

pub returns-clause-accepted : goal.returns-clause-accepted
returns-clause-accepted c = lemma.accepted_again

pub returns-clause-issues : goal.returns-clause-issues
returns-clause-issues c = lemma.agree

pub returns-clause-status : goal.returns-clause-status
returns-clause-status c = lemma.same_status
