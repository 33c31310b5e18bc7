use Rattle.text_places.proofs.MadeLemmas.{editors_read}
use Rattle.text_places.proofs.laws.editors_read_the_edits.Goals as goal

pub returns : goal.returns
returns c = editors_read
