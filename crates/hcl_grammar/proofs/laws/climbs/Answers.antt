use Rattle.hcl_grammar.proofs.ItemOrderLemmas as lemma
use Rattle.hcl_grammar.proofs.laws.climbs.Goals as goal

pub returns : goal.returns
returns c = lemma.outline_climbs
