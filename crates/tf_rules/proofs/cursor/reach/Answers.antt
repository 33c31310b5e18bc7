use Rattle.std.proofs.Common.{◌∙◌, ◌-◌, ap, sym, true, length, take, drop}
use Rattle.hcl_source.specs.Simple.{is_simple}
use Rattle.unicode_segmentation.specs.Grapheme.{graphemes}
use Rattle.tf_rules.proofs.PlaceLemmas.{column_by}
use Rattle.tf_rules.proofs.cursor.reach.Goals as goal

pub reach_by_bytes-requires-clause-simple : goal.reach_by_bytes-requires-clause-simple
reach_by_bytes-requires-clause-simple c =
    ap (λ bs. is_simple (take (c.args.offset - c.args.anchor.from) (drop c.args.anchor.from bs))) (sym c.as_bytes-bytes.ensures.value) ∙ sym c.is_simple.ensures ∙ c.if-is_simple.true

pub returns-clause-column : goal.returns-clause-column
returns-clause-column c =
    column_by c.args.text.now c.args.anchor c.args.offset c.clusters.result c.requires.walk c.requires.within (c.clusters.ensures.count ∙ ap (λ r. length (graphemes true r)) c.range.ensures.value)
