use Rattle.text_places.proofs.EditLemmas.{edits_make}
use Rattle.text_places.proofs.laws.edits_make_the_new_text.Goals as goal

pub returns : goal.returns
returns c = edits_make
