use Rattle.std.proofs.Common.{◌∙◌, ◌≡◌, ◌≤◌, ◌++◌, List, ℕ, ap, arith, length, length-append}
use Rattle.source_snippet.proofs.ClusterLemmas.{cluster_seam}
use Rattle.source_snippet.proofs.visible.first_clusters.Goals as goal

shorter : (front before after line : List ℕ) → front ≡ before → line ≡ before ++ after → length front ≤ length line
shorter front before after line same whole = omega (arith, ap length same, ap length whole, length-append before after)

pub overflow_sub-line : goal.overflow_sub-line
overflow_sub-line c = (cluster_seam c.args.line.now c.after_clusters-after.result.now _ c.utf8.line c.after_clusters-after.utf8 c.after_clusters-after.ensures).within

pub range-requires-clause-end_boundary : goal.range-requires-clause-end_boundary
range-requires-clause-end_boundary c =
    (cluster_seam c.args.line.now c.after_clusters-after.result.now _ c.utf8.line c.after_clusters-after.utf8 c.after_clusters-after.ensures).boundary

pub returns-clause-front : goal.returns-clause-front
returns-clause-front c =
    let s = cluster_seam c.args.line.now c.after_clusters-after.result.now _ c.utf8.line c.after_clusters-after.utf8 c.after_clusters-after.ensures in
    c.range.ensures.value ∙ s.front

pub returns-clause-within : goal.returns-clause-within
returns-clause-within c =
    let s = cluster_seam c.args.line.now c.after_clusters-after.result.now _ c.utf8.line c.after_clusters-after.utf8 c.after_clusters-after.ensures in
    shorter _ _ _ _ (c.range.ensures.value ∙ s.front) s.whole
