use Rattle.json.proofs.Numbered.{HasNumbers-get}
use Rattle.editor_messages.proofs.read.message_of.Goals as goal

pub id_in-requires : goal.id_in-requires
id_in-requires c = HasNumbers-get _ _ _ c.requires c.in-Some-get.ensures
