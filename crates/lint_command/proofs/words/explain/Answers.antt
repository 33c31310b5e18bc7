use Rattle.lint_command.specs.declared.usage.Usage.TheVariants.{Explain}
use Rattle.lint_command.proofs.UsageLemmas.{memory_shown}
use Rattle.lint_command.proofs.words.explain.Goals as goal

pub returns-in-Err : goal.returns-in-Err
returns-in-Err g c texts = memory_shown texts (Explain c.args.rule) c.tree_linter-in-Err.result _ c.tree_linter-in-Err.ensures c.tell_out_of_memory.ensures
