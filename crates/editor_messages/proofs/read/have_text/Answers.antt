use Rattle.std.proofs.Common.{◌∙◌, sym}
use Rattle.editor_messages.proofs.ItemLemmas.{any_text}
use Rattle.editor_messages.proofs.read.have_text.Goals as goal

pub returns : goal.returns
returns c = c.any_is.ensures ∙ sym (any_text c.args.text.now c.args.items.now)
