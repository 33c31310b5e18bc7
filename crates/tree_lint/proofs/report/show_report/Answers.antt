use Rattle.std.proofs.Common.{ap, sym}
use Rattle.tfrules_command.proofs.ReportPartLemmas.{retold}
use Rattle.tree_lint.specs.Inner.Showing.{linted_view}
use Rattle.tree_lint.specs.Runs.{report_of}
use Rattle.tree_lint.proofs.report.show_report.Goals as goal

pub returns-then-shows : goal.returns-then-shows
returns-then-shows g c =
    retold _ _ _ _ _ (ap (λ shows. report_of shows (g.N.ShownNames.names c.args.names.now) (linted_view c.args.linted)) (sym c.if-shows.true)) c.show_lines.ensures.took

pub returns : goal.returns
returns g c =
    retold _ _ _ _ _ (ap (λ shows. report_of shows (g.N.ShownNames.names c.args.names.now) (linted_view c.args.linted)) (sym c.if-shows.false)) c.show_issues.ensures.took
