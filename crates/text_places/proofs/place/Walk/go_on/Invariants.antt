use Rattle.std.proofs.Common.{◌≡◌}
use Rattle.text_places.specs.Places.{walk_to}
use Rattle.text_places.proofs.place.Walk.go_on.Given as goal

abbrev pub invariant-loop-at : goal.invariant-loop-at
invariant-loop-at l = l.walk ≡ walk_to l.units l.text l.at
