use Rattle.std.proofs.Common.{inl}
use Rattle.lint_command.proofs.EndingLemmas.{lints_modules}
use Rattle.lint_command.proofs.UsageLemmas.{memory_said}
use Rattle.lint_command.proofs.run.lint_collected.Goals as goal

pub returns-clause-ends : goal.returns-clause-ends
returns-clause-ends g c =
    lints_modules (g.T.Tree.files c.args.files.now.tree) _ c.args.task.terminals c.args.task.job c.args.collected.modules.items c.args.collected.faults.items _ _ _ _ c.in-Ok.configured _ c.configure.ensures.unchanged.0 c.as_slice.ensures.value c.in-Ok.ensures.configures c.lint_configured.ensures.ran

pub returns-in_default-clause-ends : goal.returns-in_default-clause-ends
returns-in_default-clause-ends g c = inl (memory_said c.tree_linter.result _ c.tree_linter.ensures c.tell_out_of_memory.ensures)

pub returns-in_default-head_of-clause-ends : goal.returns-in_default-head_of-clause-ends
returns-in_default-head_of-clause-ends g c = inl (memory_said c.tree_linter-in_default-head_of.result _ c.tree_linter-in_default-head_of.ensures c.tell_out_of_memory-in_default-head_of.ensures)
