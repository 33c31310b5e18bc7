use Rattle.std.proofs.Common.{◌≡◌, drop, true}
use Rattle.unicode_segmentation.specs.Grapheme.{graphemes}
use Rattle.unicode_segmentation.specs.Iter.{graphemes_left}
use Rattle.source_snippet.proofs.visible.after_clusters.Given as goal

abbrev pub invariant-loop : goal.invariant-loop
invariant-loop l = graphemes_left l.clusters ≡ drop l.counter (graphemes true l.line)
