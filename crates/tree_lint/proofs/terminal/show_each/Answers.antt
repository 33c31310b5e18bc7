use Rattle.std.proofs.Common.{◌∙◌, ap, arith}
use Rattle.std.proofs.lemmas.List.{drop_all}
use Rattle.std.specs.List.{flat_map}
use Rattle.command_line.proofs.WriterLemmas.{all_taken, goes_all, goes_on, goes_wrong}
use Rattle.tf_rules.specs.Answers.{listed_issue}
use Rattle.tfrules_command.proofs.ReportPartLemmas.{line_here, retold}
use Rattle.tree_lint.specs.Runs.{shown_issue}
use Rattle.tree_lint.proofs.terminal.show_each.Goals as goal

pub returns-in_err-show_with_line-clause-took : goal.returns-in_err-show_with_line-clause-took
returns-in_err-show_with_line-clause-took g c =
    let names = g.N.ShownNames.names c.args.names.now in
    goes_wrong _ _ _ _ _ _ _ _ (line_here (shown_issue names c.args.texts.now) c.args.issues.now c.loop-number.number (listed_issue c.get.result) c.get.ensures) c.in_err-show_with_line.ensures.failed
    (retold _ _ _ _ _ (ap (λ texts. shown_issue names texts (listed_issue c.get.result)) c.loop-number.invariant.2) c.in_err-show_with_line.ensures.took) c.loop-number.invariant.1

pub loop-number-preserved : goal.loop-number-preserved
loop-number-preserved g c =
    let names = g.N.ShownNames.names c.args.names.now in (
      c.in_ok-show_with_line.ensures.failed,
      goes_on _ _ _ _ _ _ _ (line_here (shown_issue names c.args.texts.now) c.args.issues.now c.loop-number.number (listed_issue c.get.result) c.get.ensures)
          (all_taken _ _ _ _ c.in_ok-show_with_line.ensures.failed (retold _ _ _ _ _ (ap (λ texts. shown_issue names texts (listed_issue c.get.result)) c.loop-number.invariant.2) c.in_ok-show_with_line.ensures.took)) c.loop-number.invariant.1,
      c.in_ok-show_with_line.ensures.same ∙ c.loop-number.invariant.2,
    )

pub returns-clause-took : goal.returns-clause-took
returns-clause-took g c =
    goes_all _ _ _ _ _ c.loop-number.invariant.0
    (ap (flat_map (shown_issue (g.N.ShownNames.names c.args.names.now) c.args.texts.now)) (drop_all c.loop-number.number c.args.issues.now (omega (arith, c.loop-number-test.false, c.len-number-end.ensures)))) c.loop-number.invariant.1
