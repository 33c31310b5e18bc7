use Rattle.std.proofs.Common.{◌∙◌, subst, sym}
use Rattle.hcl_tokens.specs.Scanned.{Scanned}
use Rattle.hcl_layout.specs.Inner.Simple.{IsFrom}
use Rattle.hcl_source.proofs.SimpleLemmas.{clusters_simple}
use Rattle.hcl_layout.proofs.ClusterLemmas.{clusters_part}
use Rattle.hcl_layout.proofs.measured.Measured.clusters.Goals as goal

pub returns-then-self-clause-count : goal.returns-then-self-clause-count
returns-then-self-clause-count c =
    let token = c.args.token in
    sym (clusters_part c.self.inside.tokens.now.text token.start token.text.now (subst (λ (s : Scanned). IsFrom s.text token.start token.text.now) (sym c.self.view_is) c.requires.source) (c.self.invariant.0 c.if-self.true))

pub returns-then-is_one_byte-clause-count : goal.returns-then-is_one_byte-clause-count
returns-then-is_one_byte-clause-count c =
    sym (clusters_simple c.args.token.text.now (c.is_one_byte.ensures.simple c.if-is_one_byte.true) ∙ c.is_one_byte.ensures.one c.if-is_one_byte.true)
