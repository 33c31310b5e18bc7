use Rattle.text_places.proofs.MadeLemmas.{editors_make}
use Rattle.text_places.proofs.laws.editors_make_the_new_text.Goals as goal

pub returns : goal.returns
returns c = editors_make
