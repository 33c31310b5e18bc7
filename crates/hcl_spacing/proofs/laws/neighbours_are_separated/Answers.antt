use Rattle.hcl_tokens.specs.Kinds.{is}
use Rattle.hcl_tokens.specs.declared.token.Kind.TheVariants as kind
use Rattle.hcl_spacing.specs.Spacing.{follows_kind}
use Rattle.hcl_spacing.proofs.JoiningLemmas.{joined_separated}
use Rattle.hcl_spacing.proofs.laws.neighbours_are_separated.Goals as goal

pub returns : goal.returns
returns c before u t b e h j = joined_separated before u t (follows_kind (is kind.Dot) before) e (λ d. d) (b.begins e h) (b.tilde e) j
