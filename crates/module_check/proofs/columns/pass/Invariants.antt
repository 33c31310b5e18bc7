use Rattle.std.proofs.Common.{◌≡◌, drop}
use Rattle.unicode_segmentation.specs.Iter.{graphemes_left}
use Rattle.module_check.proofs.columns.pass.Given as goal

abbrev pub invariant-loop : goal.invariant-loop
invariant-loop l = graphemes_left l.clusters ≡ drop l.counter (graphemes_left l.initial.clusters)
