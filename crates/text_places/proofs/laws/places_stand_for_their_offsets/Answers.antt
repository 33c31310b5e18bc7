use Rattle.text_places.proofs.PlaceLemmas.{place_comes_back}
use Rattle.text_places.proofs.laws.places_stand_for_their_offsets.Goals as goal

pub returns : goal.returns
returns c = place_comes_back
