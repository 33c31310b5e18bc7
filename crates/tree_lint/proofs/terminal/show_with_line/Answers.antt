use Rattle.std.proofs.Common.{◌∙◌, append-nil, sym}
use Rattle.command_line.proofs.WriterLemmas.{all_taken, took_after, took_front}
use Rattle.tfrules_command.proofs.ReportPartLemmas.{retold}
use Rattle.tree_lint.proofs.terminal.show_with_line.Goals as goal

pub returns-then-is_err-clause-took : goal.returns-then-is_err-clause-took
returns-then-is_err-clause-took g c = took_front _ _ _ _ _ (c.show_issue.ensures.failed ∙ sym c.is_err.ensures.value ∙ c.if-is_err.true) c.show_issue.ensures.took

pub returns-clause-took : goal.returns-clause-took
returns-clause-took g c =
    took_after _ _ _ _ _ _ (all_taken _ _ _ _ (c.show_issue.ensures.failed ∙ sym c.is_err.ensures.value ∙ c.if-is_err.false) c.show_issue.ensures.took)
    (retold _ _ _ _ _ (append-nil c.as_slice.result.now ∙ c.as_slice.ensures.value ∙ c.snippet-line.ensures.snippet) c.write_parts.ensures.took)
