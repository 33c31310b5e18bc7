use Rattle.std.proofs.Common.{subst}
use Rattle.hcl_tokens.specs.Scanned.{Scanned}
use Rattle.hcl_layout.specs.Inner.Bounds.{IsBounded}
use Rattle.hcl_layout.proofs.measured.Measured.source.Goals as goal

pub returns-clause-bounded : goal.returns-clause-bounded
returns-clause-bounded c = subst (λ (s : Scanned). IsBounded s) c.self.view_is c.self.invariant.1
