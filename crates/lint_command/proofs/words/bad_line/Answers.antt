use Rattle.std.proofs.Common.{map}
use Rattle.lint_command.specs.declared.usage.Usage.TheVariants.{BadLine}
use Rattle.lint_command.proofs.UsageLemmas.{memory_shown}
use Rattle.lint_command.proofs.words.bad_line.Goals as goal

pub returns-in-Err : goal.returns-in-Err
returns-in-Err g c = memory_shown (map (λ word. word.now) c.args.words.now) BadLine c.tree_linter-in-Err.result _ c.tree_linter-in-Err.ensures c.tell_out_of_memory.ensures
