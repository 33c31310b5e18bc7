use Rattle.std.proofs.Common.{◌≡◌, ◌*◌, vec_len}
use Rattle.text_places.specs.Inner.Indexes.{AreWalks}
use Rattle.text_places.proofs.IndexLemmas.{GoesTo}
use Rattle.text_places.proofs.place_index.walks_of.Given as goal

abbrev pub invariant-loop-number : goal.invariant-loop-number
invariant-loop-number l =
    record {
      goes : GoesTo l.units l.text l.walk (l.number * 64);
      count : vec_len l.walks ≡ l.number;
      walks : AreWalks l.units l.text l.walks.items;
    }
