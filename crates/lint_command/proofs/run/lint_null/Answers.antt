use Rattle.std.proofs.Common.{◌∙◌, inl, inr, refl, sym}
use Rattle.command_line.proofs.EndLemmas.{shows_as}
use Rattle.lint_command.proofs.UsageLemmas.{memory_said}
use Rattle.lint_command.proofs.run.lint_null.Goals as goal

pub returns-then-has_failed-clause-ends : goal.returns-then-has_failed-clause-ends
returns-then-has_failed-clause-ends g c = inr (inl (sym c.has_failed.ensures ∙ c.if-has_failed.true, refl, shows_as _ _ _ _ c.tree_linter.ensures c.tell.ensures))

pub returns-in_default-clause-ends : goal.returns-in_default-clause-ends
returns-in_default-clause-ends g c = inl (memory_said c.tree_linter-in_default.result _ c.tree_linter-in_default.ensures c.tell_out_of_memory.ensures)

pub returns-clause-ends : goal.returns-clause-ends
returns-clause-ends g c = inl (memory_said c.tree_linter-in-Err.result _ c.tree_linter-in-Err.ensures c.tell_out_of_memory-in-Err.ensures)
