use Rattle.std.proofs.Common.{refl}
use Rattle.tree_lint.specs.Inner.Showing.{linted_view}
use Rattle.tree_lint.proofs.ShownLemmas.{is_none, shows_nothing}
use Rattle.tree_lint.proofs.report.show.Goals as goal

pub returns-then-is_nothing : goal.returns-then-is_nothing
returns-then-is_nothing g c =
    shows_nothing c.args.task c.args.one.now _ _ c.args.kept.now (linted_view c.args.linted) (is_none (linted_view c.args.linted) c.is_nothing.result c.is_nothing.ensures c.if-is_nothing.true) c.requires.out refl c.requires.err refl
