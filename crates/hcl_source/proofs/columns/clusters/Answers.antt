use Rattle.std.proofs.Common.{◌∙◌, ap, sym, subst, true, length}
use Rattle.unicode_segmentation.specs.Grapheme.{graphemes}
use Rattle.hcl_source.specs.Simple.{is_simple}
use Rattle.hcl_source.proofs.SimpleLemmas.{clusters_simple}
use Rattle.hcl_source.proofs.columns.clusters.Goals as goal

pub returns-then-is_simple-clause-count : goal.returns-then-is_simple-clause-count
returns-then-is_simple-clause-count c =
    sym (clusters_simple c.args.text.now (ap is_simple (sym c.as_bytes.ensures.value) ∙ sym c.is_simple.ensures ∙ c.if-is_simple.true))
