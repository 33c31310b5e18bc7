-- The search for an offset, byte by byte.
use Rattle.std.proofs.Common.{◌≡◌, ◌+◌, ◌<◌, ℕ, suc, Bool, true, false, List, ap, drop, get_or, length, refl, sym, true≢false}
use Rattle.std.proofs.lemmas.List.{drop_more}
use Rattle.std.specs.Prelude.{if◌then◌else◌}
use Rattle.text_places.specs.Places.{is_there, offset_from_walk, walk_step}
use Rattle.text_places.specs.declared.place.Place.{Place}
use Rattle.text_places.specs.declared.place.Units.{Units}
use Rattle.text_places.specs.declared.place.Walk.{Walk}

-- the search at a byte goes on, or ends there
pub searched : (units : Units) (w : Walk) (text : List ℕ) (at : ℕ) (place : Place) → at < length text
    → offset_from_walk units w (drop at text) place ≡ (if is_there units w (get_or text at 0) place then 0 else suc (offset_from_walk units (walk_step units w (get_or text at 0)) (drop (at + 1) text) place))
searched units w text at place lt = ap (λ bs. offset_from_walk units w bs place) (drop_more text at 0 lt)

pub ended : (t : Bool) (n : ℕ) → t ≡ true → (if t then 0 else suc n) ≡ 0
ended true n e = refl
ended false n e = absurd (true≢false (sym e))

pub went_on : (t : Bool) (n : ℕ) → t ≡ false → (if t then 0 else suc n) ≡ suc n
went_on true n e = absurd (true≢false e)
went_on false n e = refl
