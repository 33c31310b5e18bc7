use Rattle.module_check.proofs.PlaceMarkLemmas.{marks_begin}
use Rattle.module_check.proofs.laws.marks_begin_at_their_offsets.Goals as goal

pub returns : goal.returns
returns c = marks_begin
