use Rattle.std.proofs.Common.{◌∙◌, ap, sym}
use Rattle.std.specs.Str.{bytes_eq}
use Rattle.tree_lint.proofs.NameLemmas.{known_by}
use Rattle.tree_lint.proofs.comment_text.is_known.Goals as goal

pub returns : goal.returns
returns c = c.is_some.ensures ∙ known_by c.args.name.now c.rule_named.result (sym (ap (bytes_eq c.args.name.now) c.as_slice.ensures) ∙ sym c.eq.ensures ∙ c.if-eq.false) c.rule_named.ensures
