use Rattle.std.proofs.Common.{◌∙◌, ap, arith}
use Rattle.std.specs.List.{concat}
use Rattle.module_check.proofs.ColumnLemmas.{front_is}
use Rattle.module_check.proofs.columns.len_before.Goals as goal

pub overflow_sub-result : goal.overflow_sub-result
overflow_sub-result c = omega (arith, front_is c.args.line.now c.as_str.result.now c.args.passed c.utf8.line (c.as_str.ensures ∙ ap concat c.requires))

pub returns-clause-len : goal.returns-clause-len
returns-clause-len c = omega (arith, front_is c.args.line.now c.as_str.result.now c.args.passed c.utf8.line (c.as_str.ensures ∙ ap concat c.requires))
