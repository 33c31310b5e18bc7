-- The walks of an index.
use Rattle.std.proofs.Common.{◌≡◌, ◌∙◌, ◌*◌, ◌/◌, ◌<◌, ◌≤◌, ℕ, List, ap, arith, get_or, length, sym}
use Rattle.text_places.specs.Places.{walk_start, walk_to}
use Rattle.text_places.specs.declared.place.Units.{Units}
use Rattle.text_places.specs.declared.place.Walk.{Walk}
use Rattle.text_places.proofs.WalkLemmas.{near_offset}
use Rattle.text_places.specs.Inner.Indexes.{AreWalks}

-- a walk that may go on to an offset
pub record GoesTo (units : Units) (text : List ℕ) (w : Walk) (offset : ℕ) : Type 0 where
  pub walk : w ≡ walk_to units text w.offset
  pub order : w.offset ≤ offset

pub goes_to : (units : Units) (text : List ℕ) (walks : List Walk) (w : Walk) (offset : ℕ) → AreWalks units text walks → length text / 64 < length walks → offset ≤ length text
    → get_or walks (offset / 64) walk_start ≡ w → GoesTo units text w offset
goes_to units text walks w offset are many within is =
    let near : offset / 64 < length walks = omega arith in
    let same : w ≡ walk_to units text (offset / 64 * 64) = sym is ∙ are (offset / 64) near in
    let at : w.offset ≡ offset / 64 * 64 = near_offset units text (offset / 64 * 64) w same (omega arith) in
    record { walk = same ∙ ap (walk_to units text) (sym at); order = omega arith }
