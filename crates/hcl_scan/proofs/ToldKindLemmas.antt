-- The test of kinds leaves out no kind.
use Rattle.std.proofs.Common.{◌≡◌, refl, true}
use Rattle.hcl_tokens.specs.Kinds.{is}
use Rattle.hcl_tokens.specs.declared.token.Kind.{Kind}
use Rattle.hcl_tokens.specs.declared.token.Kind.TheVariants as kind

pub told : (it : Kind) → is it it ≡ true
told kind.Newline = refl
told it = refl
