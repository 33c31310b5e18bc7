use Rattle.std.proofs.Common.{◌∙◌, ap, codes, inl}
use Rattle.module_config.specs.Lists.{unknown_in}
use Rattle.lint_command.proofs.UsageLemmas.{memory_said, value_said}
use Rattle.lint_command.proofs.wrong_value.unknown_rule.Goals as goal

pub returns-in-Ok : goal.returns-in-Ok
returns-in-Ok g c = value_said (codes "unknown rule ") c.unknown_in.result.now _ _ (c.unknown_in.ensures ∙ ap unknown_in c.in-Ok.ensures) c.tell_value.ensures

pub returns-in-Err : goal.returns-in-Err
returns-in-Err g c = inl (memory_said c.tree_linter.result _ c.tree_linter.ensures c.tell_out_of_memory.ensures)
