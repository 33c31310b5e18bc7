use Rattle.std.proofs.Common.{◌∷◌, [], refl, sym}
use Rattle.command_line.proofs.WriterLemmas.{goes_on, took_front, took_less}
use Rattle.tfrules_command.proofs.ReportPartLemmas.{retold}
use Rattle.tree_lint.specs.Inner.Showing.{linted_view}
use Rattle.tree_lint.specs.Runs.{report_of}
use Rattle.tree_lint.proofs.PartedLemmas.{none_reported, parted_report}
use Rattle.tree_lint.proofs.ShownLemmas.{untouched}
use Rattle.tree_lint.proofs.report.show_parted.Goals as goal

pub returns-then-is_empty : goal.returns-then-is_empty
returns-then-is_empty g c =
    retold _ _ _ _ _ (sym (none_reported c.args.shows (g.N.ShownNames.names c.args.names.now) (linted_view c.args.linted) c.is_empty.result c.is_empty.ensures c.if-is_empty.true))
    (untouched _ _ c.requires)

pub returns-in-Err : goal.returns-in-Err
returns-in-Err g c =
    retold _ _ _ _ _ (sym (parted_report c.args.shows (g.N.ShownNames.names c.args.names.now) (linted_view c.args.linted) c.is_empty.result c.is_empty.ensures c.if-is_empty.false))
    (took_front _ _ _ (10 ∷ []) (report_of c.args.shows (g.N.ShownNames.names c.args.names.now) (linted_view c.args.linted)) c.in-Err.ensures.failed
    (took_less _ _ _ (10 ∷ []) c.in-Err._fault.written c.in-Err.ensures.failed c.in-Err.ensures.written c.in-Err.ensures.err))

pub returns : goal.returns
returns g c =
    retold _ _ _ _ _ (sym (parted_report c.args.shows (g.N.ShownNames.names c.args.names.now) (linted_view c.args.linted) c.is_empty.result c.is_empty.ensures c.if-is_empty.false))
    (goes_on _ _ _ (10 ∷ []) (report_of c.args.shows (g.N.ShownNames.names c.args.names.now) (linted_view c.args.linted)) _ _ refl c.in_default.ensures.ok (λ after f taken. taken) _ _ c.show_report.ensures)
