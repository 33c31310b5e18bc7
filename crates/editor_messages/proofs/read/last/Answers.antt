use Rattle.editor_messages.proofs.ItemLemmas.{last_seen}
use Rattle.editor_messages.proofs.read.last.Goals as goal

pub returns : goal.returns
returns c = last_seen c.last.result c.args.items.now c.last.ensures.value
