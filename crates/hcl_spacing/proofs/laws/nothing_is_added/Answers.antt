use Rattle.std.proofs.Common.{◌∙◌, ◌||◌, ap}
use Rattle.hcl_tokens.proofs.BooleanLemmas.{or_true}
use Rattle.hcl_tokens.specs.Kinds.{is}
use Rattle.hcl_tokens.specs.declared.token.Kind.TheVariants as kind
use Rattle.hcl_spacing.proofs.SpacingLemmas.{row_one, template_touches}
use Rattle.hcl_spacing.proofs.laws.nothing_is_added.Goals as goal

pub returns-clause-newline : goal.returns-clause-newline
returns-clause-newline c before u t h = row_one before u t (ap (λ v. v || t.inside_heredoc) h)

pub returns-clause-heredoc : goal.returns-clause-heredoc
returns-clause-heredoc c before u t h = row_one before u t (ap (λ v. is kind.Newline t.kind || v) h ∙ or_true (is kind.Newline t.kind))

pub returns-clause-template : goal.returns-clause-template
returns-clause-template c before u t b e h = template_touches before u t e (b.template e h) h b.closer
