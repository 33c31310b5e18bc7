use Rattle.std.proofs.Common.{◌∙◌, arith, sym}
use Rattle.tf_rules.specs.Answers.{listed_issue}
use Rattle.tfrules_command.specs.Report.{weighs}
use Rattle.tfrules_command.proofs.StatusLemmas.{found, none_found, not_yet}
use Rattle.tfrules_command.proofs.report.has_severe.Goals as goal

pub returns-then-is_severe : goal.returns-then-is_severe
returns-then-is_severe c =
    found (weighs c.args.minimum) c.args.issues.now c.loop-number.number (listed_issue c.get.result) c.get.ensures c.loop-number.invariant (sym c.is_severe.ensures ∙ c.if-is_severe.true)

pub loop-number-preserved : goal.loop-number-preserved
loop-number-preserved c =
    not_yet (weighs c.args.minimum) c.args.issues.now c.loop-number.number (listed_issue c.get.result) c.get.ensures c.loop-number.invariant (sym c.is_severe.ensures ∙ c.if-is_severe.false)

pub returns : goal.returns
returns c = none_found (weighs c.args.minimum) c.args.issues.now c.loop-number.number (omega (arith, c.loop-number-test.false, c.len-number-end.ensures)) c.loop-number.invariant
