use Rattle.std.proofs.Common.{◌∙◌, inr, map, refl, subst, sym}
use Rattle.tree_command.specs.Inner.Asked.{selection_view}
use Rattle.tree_command.specs.Ends.{IsSelected}
use Rattle.tree_command.proofs.ProgramRunLemmas.{formats_finished, formats_stopped}
use Rattle.tree_command.proofs.run.run.Goals as goal

pub returns-then-has_failed-clause-ends : goal.returns-then-has_failed-clause-ends
returns-then-has_failed-clause-ends g c =
    let files = g.T.Tree.files c.args.tree.now in
    let was = g.T.Tree.faults c.args.tree.now in let walked = g.T.Tree.faults c.find_selected.new.tree in
    inr (formats_stopped (g.P.Progress.shows c.args.progress.now) c.args.job.quiet c.args.job.mode (selection_view c.args.job.selection) (map (λ operand. operand.now) c.args.operands.now) files _ was walked _ _ _ _ c.find_selected.ensures.unchanged.0 c.find_selected.ensures.unchanged.1
    (subst (λ l. IsSelected files was walked (selection_view c.args.job.selection) (map (λ operand. operand.now) c.args.operands.now) l) (sym c.as_slice.ensures.value) c.in-Ok.ensures.finds)
    _ _ c.run_over-ran.result.status c.run_over-ran.result.tally c.run_over-ran.ensures.ran c.run_over-ran.ensures.done c.run_over-ran.ensures.untouched (sym c.has_failed.ensures ∙ c.if-has_failed.true))

pub returns-else-has_failed-clause-ends : goal.returns-else-has_failed-clause-ends
returns-else-has_failed-clause-ends g c =
    let files = g.T.Tree.files c.args.tree.now in
    let was = g.T.Tree.faults c.args.tree.now in let walked = g.T.Tree.faults c.find_selected.new.tree in
    inr (formats_finished (g.P.Progress.shows c.args.progress.now) c.args.job.quiet c.args.job.mode (selection_view c.args.job.selection) (map (λ operand. operand.now) c.args.operands.now) files _ was walked _ _ _ _ c.find_selected.ensures.unchanged.0 c.find_selected.ensures.unchanged.1
    (subst (λ l. IsSelected files was walked (selection_view c.args.job.selection) (map (λ operand. operand.now) c.args.operands.now) l) (sym c.as_slice.ensures.value) c.in-Ok.ensures.finds)
    _ _ c.run_over-ran.result.status c.run_over-ran.result.tally c.run_over-ran.ensures.ran c.run_over-ran.ensures.done c.run_over-ran.ensures.untouched
    _ c.finish.result (sym c.has_failed.ensures ∙ c.if-has_failed.false) refl c.finish.ensures.took c.finish.ensures.exit)
