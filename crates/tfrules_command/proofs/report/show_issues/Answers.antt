use Rattle.tfrules_command.proofs.ReportPartLemmas.{flushed_after, report_is, retold}
use Rattle.command_line.proofs.WriterLemmas.{all_taken}
use Rattle.tfrules_command.proofs.report.show_issues.Goals as goal

pub returns-in-Err-clause-took : goal.returns-in-Err-clause-took
returns-in-Err-clause-took g c = retold _ _ _ _ _ (report_is (g.N.ShownNames.names c.args.names.now) c.args.issues.now c.is_empty.result c.is_empty.ensures c.if-is_empty.false) c.in-Err.ensures.took

pub returns-clause-took : goal.returns-clause-took
returns-clause-took g c =
    flushed_after _ _ _ _ _ _ (report_is (g.N.ShownNames.names c.args.names.now) c.args.issues.now c.is_empty.result c.is_empty.ensures c.if-is_empty.false)
    (all_taken _ _ _ _ c.in_default.ensures.failed c.in_default.ensures.took) c.flush.ensures.bytes
