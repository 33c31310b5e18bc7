use Rattle.std.proofs.Common.{◌∙◌, ap, arith}
use Rattle.std.proofs.lemmas.List.{drop_all}
use Rattle.std.specs.List.{flat_map}
use Rattle.tf_rules.specs.Answers.{listed_issue}
use Rattle.tfrules_command.specs.Report.{issue_line}
use Rattle.tfrules_command.proofs.PageLemmas.{all_gone, one_fails, one_goes}
use Rattle.tfrules_command.proofs.ReportPartLemmas.{line_here}
use Rattle.tfrules_command.proofs.report.write_issues.Goals as goal

pub returns-in-Err-clause-goes : goal.returns-in-Err-clause-goes
returns-in-Err-clause-goes g c =
    one_fails _ _ _ _ _ _ _ _ _ _ (issue_line (g.N.ShownNames.names c.args.names.now) (listed_issue c.get.result)) _ c.in-Err.ensures.failed
    (line_here (issue_line (g.N.ShownNames.names c.args.names.now)) c.args.issues.now c.loop-number.number (listed_issue c.get.result) c.get.ensures) c.in-Err.ensures.goes c.loop-number.invariant.1

pub loop-number-preserved : goal.loop-number-preserved
loop-number-preserved g c = (
  c.in_default.ensures.failed,
  one_goes _ _ _ _ _ _ _ _ _ (issue_line (g.N.ShownNames.names c.args.names.now) (listed_issue c.get.result)) _ c.in_default.ensures.failed
      (line_here (issue_line (g.N.ShownNames.names c.args.names.now)) c.args.issues.now c.loop-number.number (listed_issue c.get.result) c.get.ensures) c.in_default.ensures.goes c.loop-number.invariant.1,
  c.in_default.ensures.flushes ∙ c.loop-number.invariant.2,
)

pub returns-clause-goes : goal.returns-clause-goes
returns-clause-goes g c =
    all_gone _ _ _ _ _ _ _ c.loop-number.invariant.0 (ap (flat_map (issue_line (g.N.ShownNames.names c.args.names.now))) (drop_all c.loop-number.number c.args.issues.now (omega (arith, c.loop-number-test.false, c.len-number-end.ensures)))) c.loop-number.invariant.1
