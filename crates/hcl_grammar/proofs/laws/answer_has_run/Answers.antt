use Rattle.hcl_grammar.proofs.RelationLemmas.{answers}
use Rattle.hcl_grammar.proofs.laws.answer_has_run.Goals as goal

pub returns : goal.returns
returns c = λ ts. answers 0 _ ts
