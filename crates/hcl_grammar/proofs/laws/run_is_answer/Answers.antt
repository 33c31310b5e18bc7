use Rattle.hcl_grammar.proofs.RelationLemmas.{computes}
use Rattle.hcl_grammar.proofs.laws.run_is_answer.Goals as goal

pub returns : goal.returns
returns c = λ ts o r. computes 0 _ ts o r
