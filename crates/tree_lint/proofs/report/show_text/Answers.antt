use Rattle.tfrules_command.proofs.ReportPartLemmas.{retold}
use Rattle.tree_lint.specs.Inner.Showing.{linted_view}
use Rattle.tree_lint.proofs.ShownLemmas.{names_as}
use Rattle.tree_lint.proofs.report.show_text.Goals as goal

pub returns-clause-ok : goal.returns-clause-ok
returns-clause-ok g c =
    retold _ _ _ _ _ (names_as c.args.task.manner.terminals.out c.args.one.now c.args.task.is_after (linted_view c.args.linted) _ _ c.in_ok-names.ensures c.as_slice.ensures.value) c.show_after.ensures
