-- Walks, byte by byte.
use Rattle.std.proofs.Common.{◌≡◌, ◌∙◌, ◌<◌, ◌≤◌, ◌+◌, ◌*◌, ◌++◌, ◌∷◌, [], ℕ, Bool, true, false, List, ap, arith, get_or, length, refl, subst, sym, take}
use Rattle.std.proofs.lemmas.List.{length-take-le, take_more}
use Rattle.std.specs.Prelude.{◌==◌, if◌then◌else◌, nat_lt}
use Rattle.text_places.specs.declared.place.Units.{Units}
use Rattle.text_places.specs.declared.place.Units.TheVariants.{Bytes, Utf16}
use Rattle.text_places.specs.declared.place.Walk.{Walk}
use Rattle.text_places.specs.Places.{units_of, walk_from, walk_start, walk_step, walk_to}

-- a walk has come as far as this
abbrev IsAt : ℕ → Walk → Type 0
IsAt n w = w.offset ≡ n

step_offset : (units : Units) (w : Walk) (b : ℕ) → IsAt (w.offset + 1) (walk_step units w b)
step_offset units w b = by (b == 10) (b == 13)
  where
    by : (t u : Bool) → IsAt (w.offset + 1) (if t then record { offset = w.offset + 1; line = (if w.after_cr then w.line else w.line + 1); character = 0; after_cr = false } else if u then record { offset = w.offset + 1; line = w.line + 1; character = 0; after_cr = true } else record { offset = w.offset + 1; line = w.line; character = w.character + units_of units b; after_cr = false })
    by true u = refl
    by false true = refl
    by false false = refl

from_offset : (units : Units) (bs : List ℕ) (w : Walk) → (walk_from units w bs).offset ≡ w.offset + length bs
from_offset units [] w = omega arith
from_offset units (b ∷ bs) w = omega (arith, from_offset units bs (walk_step units w b), step_offset units w b)

-- a walk has come as far as it was to come
pub offset_reached : (units : Units) (text : List ℕ) (offset : ℕ) → offset ≤ length text → (walk_to units text offset).offset ≡ offset
offset_reached units text offset le = omega (arith, from_offset units (take offset text) walk_start, length-take-le offset text le)

from_one_more : (units : Units) (bs : List ℕ) (w : Walk) (b : ℕ) → walk_from units w (bs ++ b ∷ []) ≡ walk_step units (walk_from units w bs) b
from_one_more units [] w b = refl
from_one_more units (x ∷ bs) w b = from_one_more units bs (walk_step units w x) b

pub one_more_step : (units : Units) (text : List ℕ) (at d : ℕ) → at < length text → walk_to units text (at + 1) ≡ walk_step units (walk_to units text at) (get_or text at d)
one_more_step units text at d lt = ap (walk_from units walk_start) (take_more text at d lt) ∙ from_one_more units (take at text) walk_start (get_or text at d)

-- how far a walk goes at most
pub record IsNear (w : Walk) : Type 0 where
  pub line : w.line ≤ w.offset
  pub character : w.character ≤ 2 * w.offset

few : (units : Units) (b : ℕ) → units_of units b ≤ 2
few Bytes b = omega arith
few Utf16 b = by (nat_lt b 128) (nat_lt b 192) (nat_lt b 240)
  where
    by : (t u v : Bool) → (if t then 1 else if u then 0 else if v then 1 else 2) ≤ 2
    by true u v = omega arith
    by false true v = omega arith
    by false false true = omega arith
    by false false false = omega arith

step_near : (units : Units) (w : Walk) (b : ℕ) → IsNear w → IsNear (walk_step units w b)
step_near units w b near = by (b == 10) (b == 13) w.after_cr
  where
    by : (t u a : Bool) → IsNear (if t then record { offset = w.offset + 1; line = (if a then w.line else w.line + 1); character = 0; after_cr = false } else if u then record { offset = w.offset + 1; line = w.line + 1; character = 0; after_cr = true } else record { offset = w.offset + 1; line = w.line; character = w.character + units_of units b; after_cr = false })
    by true u true = record { line = omega (arith, near.line); character = omega arith }
    by true u false = record { line = omega (arith, near.line); character = omega arith }
    by false true a = record { line = omega (arith, near.line); character = omega arith }
    by false false a = record { line = omega (arith, near.line); character = omega (arith, near.character, few units b) }

from_near : (units : Units) (bs : List ℕ) (w : Walk) → IsNear w → IsNear (walk_from units w bs)
from_near units [] w near = near
from_near units (b ∷ bs) w near = from_near units bs (walk_step units w b) (step_near units w b near)

pub near_walk : (units : Units) (text : List ℕ) (at : ℕ) (w : Walk) → w ≡ walk_to units text at → IsNear w
near_walk units text at w is = subst (λ v. IsNear v) (sym is) (from_near units (take at text) walk_start (record { line = omega arith; character = omega arith }))

pub near_offset : (units : Units) (text : List ℕ) (at : ℕ) (w : Walk) → w ≡ walk_to units text at → at ≤ length text → w.offset ≡ at
near_offset units text at w is le = ap (λ (v : Walk). v.offset) is ∙ offset_reached units text at le
