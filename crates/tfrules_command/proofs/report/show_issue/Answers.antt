use Rattle.tfrules_command.proofs.PageLemmas.{text_fails, text_written}
use Rattle.tfrules_command.proofs.report.show_issue.Goals as goal

pub returns-in-Err-clause-took : goal.returns-in-Err-clause-took
returns-in-Err-clause-took g c = text_fails _ _ c.new-page.result.items _ _ _ c.in-Err.ensures.failed c.new-page.ensures c.in-Err.ensures.goes

pub returns-clause-took : goal.returns-clause-took
returns-clause-took g c = text_written _ _ _ c.new-page.result.items _ _ _ _ c.in_default.ensures.failed c.new-page.ensures c.in_default.ensures.goes c.send.ensures.took
