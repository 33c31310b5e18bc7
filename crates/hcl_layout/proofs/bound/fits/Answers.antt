use Rattle.std.proofs.Common.{subst, sym}
use Rattle.hcl_tokens.specs.Scanned.{Scanned}
use Rattle.hcl_tokens.specs.Balanced.{IsBalanced}
use Rattle.hcl_layout.proofs.BalanceLemmas.{balanced_from}
use Rattle.hcl_layout.proofs.bound.fits.Goals as goal

pub bound-requires : goal.bound-requires
bound-requires c =
    record { balanced = balanced_from c.without_widths-tokens.result.tokens (subst (λ (s : Scanned). IsBalanced s.tokens) (sym c.without_widths-tokens.ensures.same) c.without_widths-tokens.ensures.balanced) }
