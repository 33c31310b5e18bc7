use Rattle.text_places.proofs.EditLemmas.{ascends}
use Rattle.text_places.proofs.laws.edits_ascend.Goals as goal

pub returns : goal.returns
returns c = ascends
