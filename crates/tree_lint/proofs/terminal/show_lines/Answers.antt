use Rattle.std.proofs.Common.{◌∙◌, ap, sym}
use Rattle.command_line.proofs.WriterLemmas.{all_taken, took_after, took_front}
use Rattle.tfrules_command.specs.Report.{issue_count}
use Rattle.tfrules_command.proofs.ReportPartLemmas.{retold}
use Rattle.tree_lint.specs.Runs.{shown_issue}
use Rattle.tree_lint.proofs.PartedLemmas.{none_by, some_report}
use Rattle.tree_lint.proofs.ShownLemmas.{untouched}
use Rattle.tree_lint.proofs.terminal.show_lines.Goals as goal

pub returns-then-is_empty-clause-took : goal.returns-then-is_empty-clause-took
returns-then-is_empty-clause-took g c =
    retold _ _ _ _ _ (sym (none_by (shown_issue (g.N.ShownNames.names c.args.names.now) c.args.texts.now) c.args.issues.now c.is_empty.result c.is_empty.ensures c.if-is_empty.true)) (untouched _ _ c.requires)

pub returns-then-is_err-clause-took : goal.returns-then-is_err-clause-took
returns-then-is_err-clause-took g c =
    retold _ _ _ _ _ (sym (some_report (shown_issue (g.N.ShownNames.names c.args.names.now) c.args.texts.now) c.args.issues.now c.is_empty.result c.is_empty.ensures c.if-is_empty.false))
    (took_front _ _ _ _ _ (c.show_count.ensures.failed ∙ sym c.is_err.ensures.value ∙ c.if-is_err.true) (retold _ _ _ _ _ (ap issue_count c.len.ensures) c.show_count.ensures.took))

pub returns-clause-took : goal.returns-clause-took
returns-clause-took g c =
    retold _ _ _ _ _ (sym (some_report (shown_issue (g.N.ShownNames.names c.args.names.now) c.args.texts.now) c.args.issues.now c.is_empty.result c.is_empty.ensures c.if-is_empty.false))
    (took_after _ _ _ _ _ _ (all_taken _ _ _ _ (c.show_count.ensures.failed ∙ sym c.is_err.ensures.value ∙ c.if-is_err.false) (retold _ _ _ _ _ (ap issue_count c.len.ensures) c.show_count.ensures.took)) c.show_each.ensures.took)
