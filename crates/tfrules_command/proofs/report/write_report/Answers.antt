use Rattle.std.proofs.Common.{ap, refl}
use Rattle.tfrules_command.specs.Report.{issue_count}
use Rattle.tfrules_command.proofs.PageLemmas.{all_written, back_fails, front_fails, goes_as}
use Rattle.tfrules_command.proofs.report.write_report.Goals as goal

pub returns-in-Err-clause-took : goal.returns-in-Err-clause-took
returns-in-Err-clause-took g c =
    front_fails _ _ c.new-page.result.items _ _ _ _ c.in-Err.ensures.failed c.new-page.ensures (goes_as _ _ _ _ _ _ _ (ap issue_count c.len.ensures) c.in-Err.ensures.goes)

pub returns-in-Err-write_issues-clause-took : goal.returns-in-Err-write_issues-clause-took
returns-in-Err-write_issues-clause-took g c =
    back_fails _ _ _ c.new-page.result.items _ _ _ _ _ _ c.in_default.ensures.failed c.in-Err-write_issues.ensures.failed c.new-page.ensures
    (goes_as _ _ _ _ _ _ _ (ap issue_count c.len.ensures) c.in_default.ensures.goes) c.in-Err-write_issues.ensures.goes

pub returns-clause-took : goal.returns-clause-took
returns-clause-took g c =
    all_written _ _ _ _ c.new-page.result.items _ _ _ _ _ _ _ _ c.in_default.ensures.failed c.in_default-write_issues.ensures.failed c.new-page.ensures refl
    (goes_as _ _ _ _ _ _ _ (ap issue_count c.len.ensures) c.in_default.ensures.goes) c.in_default-write_issues.ensures.goes c.send.ensures.took
