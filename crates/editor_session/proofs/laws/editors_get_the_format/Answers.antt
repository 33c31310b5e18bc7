use Rattle.editor_session.proofs.FormatLemmas.{editors_get}
use Rattle.editor_session.proofs.laws.editors_get_the_format.Goals as goal

pub returns : goal.returns
returns c = editors_get
