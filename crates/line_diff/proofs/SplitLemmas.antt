-- A text, line by line.
use Rattle.std.proofs.Common.{◌≡◌, ◌∙◌, ◌<◌, ◌≤◌, ◌+◌, ◌-◌, ◌++◌, ◌∷◌, ◌⊎◌, [], ℕ, zero, suc, Bool, true, false, List, ap, append_assoc, append-nil, arith, drop, drop-cons, get_or, inl, inr, length, map, refl, sym, take}
use Rattle.std.proofs.lemmas.List.{get_or_default, length-drop, get_or-drop, take_all, take_more}
use Rattle.std.proofs.lemmas.Bool.{eq-eqb}
use Rattle.std.proofs.lemmas.Bool.Decides.{eqb_tells}
use Rattle.std.specs.List.{onto_first}
use Rattle.std.specs.Prelude.{◌≢◌, ◌==◌, if◌then◌else◌}
use Rattle.line_diff.specs.Diffs.{lines_of}

-- some bytes before the first line
abbrev pub onto : List ℕ → List (List ℕ) → List (List ℕ)
onto [] lines = lines
onto (b ∷ bs) lines = onto_first b (onto bs lines)

onto_line : (bs line : List ℕ) (lines : List (List ℕ)) → onto bs (line ∷ lines) ≡ (bs ++ line) ∷ lines
onto_line [] line lines = refl
onto_line (b ∷ bs) line lines = ap (onto_first b) (onto_line bs line lines)

onto_more : (bs : List ℕ) (b : ℕ) (lines : List (List ℕ)) → onto (bs ++ b ∷ []) lines ≡ onto bs (onto_first b lines)
onto_more [] b lines = refl
onto_more (x ∷ bs) b lines = ap (onto_first x) (onto_more bs b lines)

onto_none : (b : ℕ) (bs : List ℕ) → onto (b ∷ bs) [] ≡ (b ∷ bs) ∷ []
onto_none b [] = refl
onto_none b (x ∷ bs) = ap (onto_first b) (onto_none x bs)

from_here : (text : List ℕ) (at b : ℕ) → at < length text → b ≡ get_or text at b → drop at text ≡ b ∷ drop (at + 1) text
from_here text at b lt is =
    let next : suc at ≡ at + 1 = omega arith in
    drop-cons text at b lt ∙ ap (λ y. y ∷ drop (suc at) text) (sym is) ∙ ap (λ n. b ∷ drop n text) next

-- the bytes of a line so far
abbrev pub since : List ℕ → ℕ → ℕ → List ℕ
since text start at = take (at - start) (drop start text)

since_more : (text : List ℕ) (start at b : ℕ) → start ≤ at → at < length text → b ≡ get_or text at b → since text start (at + 1) ≡ since text start at ++ b ∷ []
since_more text start at b le lt is =
    let one : at + 1 - start ≡ (at - start) + 1 = omega (arith, le) in
    let within : at - start < length (drop start text) = omega (arith, le, lt, length-drop start text) in
    let here : start + (at - start) ≡ at = omega (arith, le) in
    ap (λ n. take n (drop start text)) one ∙ take_more (drop start text) (at - start) b within
    ∙ ap (λ x. since text start at ++ x ∷ []) (get_or-drop start text (at - start) b ∙ ap (λ n. get_or text n b) here ∙ sym is)

since_none : (text : List ℕ) (at : ℕ) → since text at at ≡ []
since_none text at = ap (λ n. take n (drop at text)) none
  where
    none : at - at ≡ 0
    none = omega arith

-- a byte that ends no line
is_not : (b c : ℕ) → b ≢ c → (b == c) ≡ false
is_not b c ne = by (eqb_tells b c)
  where
    by : (((b == c) ≡ true) × (b ≡ c)) ⊎ (((b == c) ≡ false) × (b ≢ c)) → (b == c) ≡ false
    by (inl h) = absurd (ne h.1)
    by (inr h) = h.0

pub line_goes : (made whole : List (List ℕ)) (text : List ℕ) (start at b : ℕ) → start ≤ at → at < length text → b ≡ get_or text at b → b ≢ 10
    → made ++ onto (since text start at) (lines_of (drop at text)) ≡ whole → made ++ onto (since text start (at + 1)) (lines_of (drop (at + 1) text)) ≡ whole
line_goes made whole text start at b le lt is other before =
    let rest : lines_of (drop at text) ≡ onto_first b (lines_of (drop (at + 1) text)) =
    ap lines_of (from_here text at b lt is) ∙ ap (λ (v : Bool). if v then (b ∷ []) ∷ lines_of (drop (at + 1) text) else onto_first b (lines_of (drop (at + 1) text))) (is_not b 10 other) in
    ap (λ l. made ++ l) (ap (λ s. onto s (lines_of (drop (at + 1) text))) (since_more text start at b le lt is) ∙ onto_more (since text start at) b (lines_of (drop (at + 1) text)) ∙ ap (onto (since text start at)) (sym rest))
    ∙ before

-- a byte that ends a line
pub line_ends : (made more whole : List (List ℕ)) (text : List ℕ) (start at b : ℕ) → start ≤ at → at < length text → b ≡ get_or text at b → b ≡ 10
    → more ≡ made ++ since text start (at + 1) ∷ []
    → made ++ onto (since text start at) (lines_of (drop at text)) ≡ whole → more ++ onto (since text (at + 1) (at + 1)) (lines_of (drop (at + 1) text)) ≡ whole
line_ends made more whole text start at b le lt is ends added before =
    let rest : lines_of (drop at text) ≡ (b ∷ []) ∷ lines_of (drop (at + 1) text) =
    ap lines_of (from_here text at b lt is) ∙ ap (λ (v : Bool). if v then (b ∷ []) ∷ lines_of (drop (at + 1) text) else onto_first b (lines_of (drop (at + 1) text))) (eq-eqb b 10 ends) in
    let all : onto (since text start at) (lines_of (drop at text)) ≡ since text start (at + 1) ∷ lines_of (drop (at + 1) text) =
    ap (onto (since text start at)) rest ∙ onto_line (since text start at) (b ∷ []) (lines_of (drop (at + 1) text)) ∙ ap (λ l. l ∷ lines_of (drop (at + 1) text)) (sym (since_more text start at b le lt is)) in
    ap (λ s. more ++ onto s (lines_of (drop (at + 1) text))) (since_none text (at + 1)) ∙ ap (λ m. m ++ lines_of (drop (at + 1) text)) added
    ∙ append_assoc made (since text start (at + 1) ∷ []) (lines_of (drop (at + 1) text)) ∙ ap (λ l. made ++ l) (sym all) ∙ before

no_more : (text : List ℕ) (at : ℕ) → length text ≤ at → drop at text ≡ []
no_more text at le = by (drop at text) left
  where
    left : length (drop at text) ≡ 0
    left = omega (arith, le, length-drop at text)

    by : (xs : List ℕ) → length xs ≡ 0 → xs ≡ []
    by [] e = refl
    by (x ∷ xs) e = absurd (no e)
      where
        no : suc (length xs) ≡ 0 → ⊥
        no h = omega (arith, h)

take_nothing : (n : ℕ) → take {A = ℕ} n [] ≡ []
take_nothing zero = refl
take_nothing (suc n) = refl

pub lines_done : (made whole : List (List ℕ)) (text : List ℕ) (start at : ℕ) → length text ≤ at → length text ≤ start → made ++ onto (since text start at) (lines_of (drop at text)) ≡ whole → made ≡ whole
lines_done made whole text start at le none before =
    sym (append-nil made) ∙ sym (ap (λ l. made ++ onto (take (at - start) l) []) (no_more text start none) ∙ ap (λ (s : List ℕ). made ++ onto s []) (take_nothing (at - start))) ∙ sym (ap (λ l. made ++ onto (since text start at) (lines_of l)) (no_more text at le)) ∙ before

-- a last line without LF
pub last_line : (made more whole : List (List ℕ)) (text : List ℕ) (start at : ℕ) → length text ≤ at → start < length text → more ≡ made ++ drop start text ∷ []
    → made ++ onto (since text start at) (lines_of (drop at text)) ≡ whole → more ≡ whole
last_line made more whole text start at le lt added before =
    let all : length (drop start text) ≤ at - start = omega (arith, le, lt, length-drop start text) in
    let some : 0 < length (drop start text) = omega (arith, lt, length-drop start text) in
    added ∙ ap (λ l. made ++ l) (sym (alone (drop start text) some)) ∙ ap (λ s. made ++ onto s []) (sym (take_all (at - start) (drop start text) all))
    ∙ sym (ap (λ l. made ++ onto (since text start at) (lines_of l)) (no_more text at le)) ∙ before
  where
    alone : (xs : List ℕ) → 0 < length xs → onto xs [] ≡ xs ∷ []
    alone [] lt = absurd (no lt)
      where
        no : 0 < 0 → ⊥
        no h = omega (arith, h)
    alone (x ∷ xs) lt = onto_none x xs

pub one_line : {X : Type 0} (f : X → List ℕ) (xs : List X) (x : X) → map f (xs ++ x ∷ []) ≡ map f xs ++ f x ∷ []
one_line f [] x = refl
one_line f (y ∷ xs) x = ap (λ l. f y ∷ l) (one_line f xs x)

pub read_here : (text : List ℕ) (at d : ℕ) → at < length text → get_or text at d ≡ get_or text at (get_or text at d)
read_here text at d lt = get_or_default text at d (get_or text at d) lt
