use Rattle.std.proofs.Common.{arith}
use Rattle.module_check.proofs.MarkLemmas.{clusters_grow}
use Rattle.module_check.proofs.columns.Columns.part.Goals as goal

pub returns-clause-order : goal.returns-clause-order
returns-clause-order c =
    omega (arith, c.len_before.ensures.len, c.len_before-2.ensures.len, clusters_grow c.saturating_sub-count.result c.args.column c.self.inside.line.now (omega (arith, c.saturating_sub-count.ensures)))
