use Rattle.std.proofs.Common.{inl, map}
use Rattle.lint_command.specs.Inner.Asked.{job_of}
use Rattle.lint_command.proofs.EndingLemmas.{lints_collected}
use Rattle.lint_command.proofs.UsageLemmas.{memory_said}
use Rattle.lint_command.proofs.run.lint.Goals as goal

pub returns-in-Ok-clause-ends : goal.returns-in-Ok-clause-ends
returns-in-Ok-clause-ends g c =
    lints_collected (g.T.Tree.files c.args.files.now.tree) _ c.args.task.terminals (job_of c.args.task.job) (map (λ operand. operand.now) c.args.operands.now) _ _ _ _ _ _ c.collect.ensures.unchanged.0 c.in-Ok.ensures.collects c.lint_collected.ensures.ends

pub returns-in-Err-clause-ends : goal.returns-in-Err-clause-ends
returns-in-Err-clause-ends g c = inl (memory_said c.tree_linter.result _ c.tree_linter.ensures c.tell_out_of_memory.ensures)
