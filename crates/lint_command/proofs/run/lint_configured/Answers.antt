use Rattle.std.proofs.Common.{◌≡◌, ◌∙◌, ap, refl, sym}
use Rattle.command_line.specs.Rows.{writer}
use Rattle.lint_command.proofs.EndingLemmas.{closed_here, error_cut, output_cut}
use Rattle.lint_command.proofs.run.lint_configured.Goals as goal

pub returns-then-has_failed-clause-ran : goal.returns-then-has_failed-clause-ran
returns-then-has_failed-clause-ran g c =
    error_cut (g.T.Tree.files c.args.files.now.tree) c.args.rest.manner c.args.rest.quiet c.args.rest.configured.now _ c.args.rest.faults.now _ _ c.run_over-ran.result _ c.args.head.now c.as_slice-governed.ensures.value c.requires.head c.run_over-ran.ensures.ran
    _ (sym c.has_failed.ensures ∙ c.if-has_failed.true) refl refl refl

pub returns-then-has_failed-2-clause-ran : goal.returns-then-has_failed-2-clause-ran
returns-then-has_failed-2-clause-ran g c =
    output_cut (g.T.Tree.files c.args.files.now.tree) c.args.rest.manner c.args.rest.quiet c.args.rest.configured.now _ c.args.rest.faults.now _ _ c.run_over-ran.result _ c.args.head.now c.as_slice-governed.ensures.value c.requires.head c.run_over-ran.ensures.ran
    c.tree_linter.result _ _ c.tree_linter.ensures (sym c.has_failed.ensures ∙ c.if-has_failed.false) (sym c.has_failed-2.ensures ∙ c.if-has_failed-2.true) refl refl c.finish.ensures.took c.finish.ensures.exit

pub returns-clause-ran : goal.returns-clause-ran
returns-clause-ran g c =
    closed_here (g.T.Tree.files c.args.files.now.tree) c.args.rest.manner c.args.rest.quiet c.args.rest.configured.now _ c.args.rest.faults.now _ _ c.run_over-ran.result _ c.args.head.now c.as_slice-governed.ensures.value c.requires.head c.run_over-ran.ensures.ran
    (writer g.O.ByteSink c.run_over-ran.new.streams.out c.close.new.streams.out) (writer g.E.ByteSink c.run_over-ran.new.streams.err c.close.new.streams.err) _ (sym c.has_failed.ensures ∙ c.if-has_failed.false) (sym c.has_failed-2.ensures ∙ c.if-has_failed-2.false) refl refl refl refl refl (c.close.new.streams.out ≡ c.run_over-ran.new.streams.out) (ap (λ o. writer g.O.ByteSink c.args.streams.now.out o)) c.close.ensures
