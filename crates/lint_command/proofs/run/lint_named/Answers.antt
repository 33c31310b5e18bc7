use Rattle.std.proofs.Common.{inl}
use Rattle.lint_command.proofs.UsageLemmas.{memory_said}
use Rattle.lint_command.proofs.run.lint_named.Goals as goal

pub returns-in-Err-clause-ends : goal.returns-in-Err-clause-ends
returns-in-Err-clause-ends g c = inl (memory_said c.tree_linter.result _ c.tree_linter.ensures c.tell_out_of_memory.ensures)
