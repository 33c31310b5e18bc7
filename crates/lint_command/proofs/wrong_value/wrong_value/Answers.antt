use Rattle.std.proofs.Common.{inl}
use Rattle.lint_command.proofs.UsageLemmas.{memory_said, value_said}
use Rattle.lint_command.proofs.wrong_value.wrong_value.Goals as goal

pub returns-in-Ok : goal.returns-in-Ok
returns-in-Ok g c = value_said c.args.front.now c.in-Ok.value.now _ _ c.in-Ok.ensures c.tell_value.ensures

pub returns-in-Err : goal.returns-in-Err
returns-in-Err g c = inl (memory_said c.tree_linter.result _ c.tree_linter.ensures c.tell_out_of_memory.ensures)
