use Rattle.std.proofs.Common.{subst}
use Rattle.hcl_tokens.specs.Balanced.{IsBalanced}
use Rattle.hcl_grammar.proofs.BalancedRowLemmas.{balance}
use Rattle.hcl_grammar.proofs.accepted.Accepted.tokens.Goals as goal

pub returns-clause-balanced : goal.returns-clause-balanced
returns-clause-balanced c = subst (λ v. IsBalanced v.tokens) c.self.view_is (balance _ _ c.source-source.ensures.scanned c.self.invariant)
