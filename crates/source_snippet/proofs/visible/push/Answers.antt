use Rattle.source_snippet.proofs.ShownLemmas.{on_ok}
use Rattle.source_snippet.proofs.visible.push.Goals as goal

pub returns : goal.returns
returns c = on_ok _ _ (c.try_extend_from_slice.ensures.variant.1 c.requires) c.try_extend_from_slice.ensures.ok
