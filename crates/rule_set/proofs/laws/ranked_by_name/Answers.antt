use Rattle.rule_set.proofs.RankLemmas as lemma
use Rattle.rule_set.proofs.laws.ranked_by_name.Goals as goal

pub returns : goal.returns
returns c = lemma.ranked
