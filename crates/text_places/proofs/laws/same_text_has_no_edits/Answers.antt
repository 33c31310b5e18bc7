use Rattle.text_places.proofs.EditLemmas.{no_edits}
use Rattle.text_places.proofs.laws.same_text_has_no_edits.Goals as goal

pub returns : goal.returns
returns c = no_edits
