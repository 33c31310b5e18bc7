-- Places and the offsets that they stand for.
use Rattle.std.proofs.Common.{inl, inr, ◌≡◌, ◌∙◌, ◌<◌, ◌≤◌, ◌+◌, ◌∷◌, [], ℕ, zero, suc, Bool, true, false, List, ap, arith, drop, length, not, refl, sym, take, true≢false}
use Rattle.std.proofs.lemmas.Bool.{eq-eqb, ne_eqb, lt-ltb, le-ltb, ltb-true, cases_eq}
use Rattle.std.specs.Prelude.{◌==◌, ◌&&◌, ◌||◌, ◌⊎◌, if◌then◌else◌, nat_lt}
use Rattle.text_places.specs.declared.place.Units.{Units}
use Rattle.text_places.specs.declared.place.Walk.{Walk}
use Rattle.text_places.specs.Places.{begins_character, offset_from_walk, ends_line, is_there, offset_at, place_at, place_after, units_of, walk_from, walk_start, walk_step, walk_to}

-- right after a CR a line begins
abbrev IsKept : Walk → Type 0
IsKept w = w.after_cr ≡ true → w.character ≡ 0

step_kept : (units : Units) (w : Walk) (b : ℕ) → IsKept (walk_step units w b)
step_kept units w b = by (b == 10) (b == 13)
  where
    by : (t u : Bool) → IsKept (if t then record { offset = w.offset + 1; line = (if w.after_cr then w.line else w.line + 1); character = 0; after_cr = false } else if u then record { offset = w.offset + 1; line = w.line + 1; character = 0; after_cr = true } else record { offset = w.offset + 1; line = w.line; character = w.character + units_of units b; after_cr = false })
    by true u = λ e. refl
    by false true = λ e. refl
    by false false = λ e. absurd (true≢false (sym e))

-- one walk has come no less far than another
record IsAfter (w v : Walk) : Type 0 where
  line : w.line ≤ v.line
  character : v.line ≡ w.line → w.character ≤ v.character

after_self : (w : Walk) → IsAfter w w
after_self w = record { line = omega arith; character = λ e. omega arith }

after_both : (p q r : Walk) → IsAfter p q → IsAfter q r → IsAfter p r
after_both p q r one two =
    record { line = omega (arith, one.line, two.line); character = λ e. let f : q.line ≡ p.line = omega (arith, one.line, two.line, e) in let g : r.line ≡ q.line = omega (arith, e, f) in omega (arith, one.character f, two.character g) }

step_after : (units : Units) (w : Walk) (b : ℕ) → IsKept w → IsAfter w (walk_step units w b)
step_after units w b kept = by (b == 10) (b == 13) w.after_cr kept
  where
    by : (t u a : Bool) → (a ≡ true → w.character ≡ 0) → IsAfter w (if t then record { offset = w.offset + 1; line = (if a then w.line else w.line + 1); character = 0; after_cr = false } else if u then record { offset = w.offset + 1; line = w.line + 1; character = 0; after_cr = true } else record { offset = w.offset + 1; line = w.line; character = w.character + units_of units b; after_cr = false })
    by true u true k = record { line = omega arith; character = λ e. omega (arith, k refl) }
    by true u false k = record { line = omega arith; character = λ e. omega (arith, e) }
    by false true a k = record { line = omega arith; character = λ e. omega (arith, e) }
    by false false a k = record { line = omega arith; character = λ e. omega arith }

walk_after : (units : Units) (bs : List ℕ) (w : Walk) → IsKept w → IsAfter w (walk_from units w bs)
walk_after units [] w kept = after_self w
walk_after units (b ∷ bs) w kept = after_both _ _ _ (step_after units w b kept) (walk_after units bs (walk_step units w b) (step_kept units w b))

is_here : (units : Units) (w : Walk) (b : ℕ) (bs : List ℕ) → begins_character units w (b ∷ bs) ≡ true → is_there units w b (place_after w) ≡ true
is_here units w b bs begun = ap (λ t. t && inside) (eq-eqb w.line w.line refl) ∙ by (ends_line b) (units_of units b) begun
  where
    inside : Bool
    inside = if ends_line b then not (w.after_cr && b == 10) else nat_lt w.character (w.character + units_of units b)

    by : (e : Bool) (n : ℕ) → (if e then not (w.after_cr && b == 10) else nat_lt 0 n) ≡ true → (if e then not (w.after_cr && b == 10) else nat_lt w.character (w.character + n)) ≡ true
    by true n h = h
    by false n h = let some : 0 < n = ltb-true 0 n h in lt-ltb w.character (w.character + n) (omega (arith, some))

-- a place that is after a byte isn't looked for before it
is_further : (units : Units) (w v : Walk) (b : ℕ) → IsKept w → IsAfter (walk_step units w b) v → is_there units w b (place_after v) ≡ false
is_further units w v b kept after = by (b == 10) (b == 13) w.after_cr after
  where
    other : (n : ℕ) (t : Bool) → (w.line ≡ n → ⊥) → ((w.line == n) && t) ≡ false
    other n t ne = ap (λ s. s && t) (ne_eqb w.line n ne)

    none : (s : Bool) → (s && false) ≡ false
    none true = refl
    none false = refl

    by : (t u a : Bool)
        → IsAfter (if t then record { offset = w.offset + 1; line = (if a then w.line else w.line + 1); character = 0; after_cr = false } else if u then record { offset = w.offset + 1; line = w.line + 1; character = 0; after_cr = true } else record { offset = w.offset + 1; line = w.line; character = w.character + units_of units b; after_cr = false }) v
        → (w.line == v.line && (if t || u then not (a && t) else nat_lt v.character (w.character + units_of units b))) ≡ false
    by true u true h = none (w.line == v.line)
    by true u false h = other v.line true (λ e. omega (arith, h.line, e))
    by false true a h = other v.line (not (a && false)) (λ e. omega (arith, h.line, e))
    by false false a h = split (cases_eq w.line v.line)
      where
        split : (w.line ≡ v.line) ⊎ (w.line ≡ v.line → ⊥) → (w.line == v.line && nat_lt v.character (w.character + units_of units b)) ≡ false
        split (inl e) = ap (λ s. (w.line == v.line) && s) (le-ltb v.character (w.character + units_of units b) (h.character (sym e))) ∙ none (w.line == v.line)
        split (inr ne) = other v.line (nat_lt v.character (w.character + units_of units b)) ne

if_true : (t : Bool) (m n : ℕ) → t ≡ true → (if t then m else n) ≡ m
if_true true m n e = refl
if_true false m n e = absurd (true≢false (sym e))

if_false : (t : Bool) (m n : ℕ) → t ≡ false → (if t then m else n) ≡ n
if_false true m n e = absurd (true≢false e)
if_false false m n e = refl

comes_back : (units : Units) (bs : List ℕ) (w : Walk) (o : ℕ) → IsKept w → o ≤ length bs → begins_character units (walk_from units w (take o bs)) (drop o bs) ≡ true
    → offset_from_walk units w bs (place_after (walk_from units w (take o bs))) ≡ o
comes_back units [] w zero kept le begun = refl
comes_back units [] w (suc o) kept le begun = absurd (no le)
  where
    no : suc o ≤ 0 → ⊥
    no h = omega (arith, h)
comes_back units (b ∷ bs) w zero kept le begun = if_true _ 0 _ (is_here units w b bs begun)
comes_back units (b ∷ bs) w (suc o) kept le begun =
    if_false _ 0 _ (is_further units w (walk_from units (walk_step units w b) (take o bs)) b kept (walk_after units (take o bs) (walk_step units w b) (step_kept units w b)))
    ∙ ap suc (comes_back units bs (walk_step units w b) o (step_kept units w b) less begun)
  where
    less : o ≤ length bs
    less = omega (arith, le)

-- THE PLACE OF AN OFFSET STANDS FOR IT
pub place_comes_back : (units : Units) (text : List ℕ) (offset : ℕ) → offset ≤ length text → begins_character units (walk_to units text offset) (drop offset text) ≡ true
    → offset_at units text (place_at units text offset) ≡ offset
place_comes_back units text offset le begun = comes_back units text walk_start offset (λ e. absurd (true≢false (sym e))) le begun
