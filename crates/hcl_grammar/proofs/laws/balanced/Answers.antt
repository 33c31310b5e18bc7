use Rattle.hcl_grammar.proofs.BalancedRowLemmas.{balance}
use Rattle.hcl_grammar.proofs.laws.balanced.Goals as goal

pub returns : goal.returns
returns c = balance
