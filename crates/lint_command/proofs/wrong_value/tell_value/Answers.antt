use Rattle.std.proofs.Common.{◌∙◌, inl, inr}
use Rattle.lint_command.proofs.UsageLemmas.{memory_said, value_told}
use Rattle.lint_command.proofs.wrong_value.tell_value.Goals as goal

pub returns-in-Ok : goal.returns-in-Ok
returns-in-Ok g c = inr (value_told c.tree_linter.result c.as_slice.result.now c.args.front.now c.args.value.now _ c.tree_linter.ensures (c.as_slice.ensures.value ∙ c.in-Ok.ensures) c.tell_bytes.ensures)

pub returns-in-Err : goal.returns-in-Err
returns-in-Err g c = inl (memory_said c.tree_linter-in-Err.result _ c.tree_linter-in-Err.ensures c.tell_out_of_memory.ensures)
