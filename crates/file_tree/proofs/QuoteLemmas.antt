-- A quoted name has no control byte in it, so no newline.
use Rattle.std.proofs.Common.{◌≡◌, ◌∙◌, ◌<◌, ◌++◌, ◌∷◌, [], ℕ, zero, suc, Bool, true, false, List, ap, arith, refl, subst, sym}
use Rattle.std.specs.Prelude.{not, ◌||◌, ◌&&◌, ◌==◌, flat_map, nat_lt, if◌then◌else◌}
use Rattle.std.specs.List.{list_any}
use Rattle.std.proofs.lemmas.Bool.Decides.{nat_tests}
use Rattle.file_tree.specs.Files.{Name}
use Rattle.file_tree.specs.Quotes.{escape, is_control, is_odd, shown_name, shown_byte}

either_false : (f g : Bool) → f ≡ false → g ≡ false → (f || g) ≡ false
either_false true g e h = e
either_false false g e h = h

first_false : (f g : Bool) → (f || g) ≡ false → f ≡ false
first_false true g e = e
first_false false g e = refl

last_false : (f g : Bool) → (f || g) ≡ false → g ≡ false
last_false true g e = absurd (cc)
last_false false g e = e

any_append : (p : ℕ → Bool) (front back : List ℕ) → list_any p front ≡ false → list_any p back ≡ false → list_any p (front ++ back) ≡ false
any_append p [] back e h = h
any_append p (b ∷ front) back e h = either_false (p b) (list_any p (front ++ back)) (first_false (p b) (list_any p front) e) (any_append p front back (last_false (p b) (list_any p front) e) h)

-- ---- one byte

abbrev is_plain : ℕ → Bool
is_plain b = not (list_any is_control (shown_byte b))

abbrev holds_below : (ℕ → Bool) → ℕ → Bool
holds_below p zero = true
holds_below p (suc n) = p n && holds_below p n

below_128 : holds_below is_plain 128 ≡ true
below_128 = refl

and_both : (f g : Bool) → (f && g) ≡ true → (f ≡ true) × (g ≡ true)
and_both true true e = (refl, refl)
and_both true false e = absurd (cc)
and_both false g e = absurd (cc)

same : (a b : ℕ) → (a == b) ≡ true → a ≡ b
same a b e = grind (arith, nat_tests)

less : (b n : ℕ) → b < suc n → (b == n) ≡ false → b < n
less b n lt e = grind (arith, nat_tests)

last_by : (p : ℕ → Bool) (n b : ℕ) (v : Bool) → (b == n) ≡ v → p n ≡ true → b < suc n → (b < n → p b ≡ true) → p b ≡ true
last_by p n b true e here lt more = subst (λ k. p k ≡ true) (sym (same b n e)) here
last_by p n b false e here lt more = more (less b n lt e)

from_below : (p : ℕ → Bool) (n b : ℕ) → holds_below p n ≡ true → b < n → p b ≡ true
from_below p zero b h lt = absurd (omega (arith, lt))
from_below p (suc n) b h lt = let both = and_both (p n) (holds_below p n) h in last_by p n b (b == n) refl both.0 lt (λ less_than. from_below p n b both.1 less_than)

not_true : (f : Bool) → not f ≡ true → f ≡ false
not_true true e = absurd (cc)
not_true false e = refl

high_control : (b : ℕ) → nat_lt b 128 ≡ false → is_control b ≡ false
high_control b h = grind (arith, nat_tests)

high_odd : (b : ℕ) → nat_lt b 128 ≡ false → is_odd b ≡ false
high_odd b h = grind (arith, nat_tests)

low : (b : ℕ) → nat_lt b 128 ≡ true → b < 128
low b h = grind (arith, nat_tests)

shown_plain : (b : ℕ) → list_any is_control (shown_byte b) ≡ false
shown_plain b = by (nat_lt b 128) refl
  where
    by : (v : Bool) → nat_lt b 128 ≡ v → list_any is_control (shown_byte b) ≡ false
    by true e = not_true (list_any is_control (shown_byte b)) (from_below is_plain 128 b below_128 (low b e))
    by false e = ap (λ (v : Bool). list_any is_control (if v then escape b else b ∷ [])) (high_odd b e) ∙ either_false (is_control b) false (high_control b e) refl

-- ---- a name

all_plain : (name : Name) → list_any is_control (flat_map shown_byte name) ≡ false
all_plain [] = refl
all_plain (b ∷ name) = any_append is_control (shown_byte b) (flat_map shown_byte name) (shown_plain b) (all_plain name)

none_odd : (name : Name) → list_any is_odd name ≡ false → list_any is_control name ≡ false
none_odd [] e = refl
none_odd (b ∷ name) e =
    either_false (is_control b) (list_any is_control name) (first_false (is_control b) (b == 34 || b == 92) (first_false (is_odd b) (list_any is_odd name) e))
    (none_odd name (last_false (is_odd b) (list_any is_odd name) e))

pub quoted_plain : (name : Name) → list_any is_control (shown_name name) ≡ false
quoted_plain name = by (list_any is_odd name) refl
  where
    by : (v : Bool) → list_any is_odd name ≡ v → list_any is_control (if v then 34 ∷ (flat_map shown_byte name ++ 34 ∷ []) else name) ≡ false
    by true e = any_append is_control (flat_map shown_byte name) (34 ∷ []) (all_plain name) refl
    by false e = none_odd name e
