use Rattle.std.proofs.Common.{◌≡◌, ◌+◌, drop}
use Rattle.text_places.specs.Places.{offset_at, offset_from_walk, walk_to}
use Rattle.text_places.proofs.offset.offset_at.Given as goal

abbrev pub invariant-loop-at : goal.invariant-loop-at
invariant-loop-at l =
    record {
      search : l.at + offset_from_walk l.units l.walk (drop l.at l.text) l.place ≡ offset_at l.units l.text l.place;
      walk : l.walk ≡ walk_to l.units l.text l.at;
    }
