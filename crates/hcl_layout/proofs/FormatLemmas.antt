-- The source compared with its print, piece by piece.
use Rattle.std.proofs.Common.{◌≡◌, ◌≢◌, ◌∙◌, ◌++◌, ◌+◌, ◌-◌, ◌<◌, ◌≤◌, ◌==◌, ◌&&◌, ℕ, suc, zero, Bool, true, false, List, [], ◌∷◌, ap, ap₂, arith, refl, sym, subst, length, drop, take, append_assoc, replicate, length-append, eqb-true, true≢false}
use Rattle.std.specs.Prelude.{IsTrue, nat_eq, nat_le, ◌↔◌}
use Rattle.std.specs.List.{list_all, starts_with}
use Rattle.std.specs.Cmp.Lexicographic.{other_text, same_text}
use Rattle.std.proofs.Math.Seq.{drop-append_seam, take-append_seam}
use Rattle.std.proofs.lemmas.Grind.{common_steps}
use Rattle.std.proofs.lemmas.List.{length-replicate, length-take-le, take-append-drop}

abbrev blank : ℕ → Bool
blank b = b == 32

all_blank : (xs : List ℕ) → list_all blank xs ≡ true → xs ≡ replicate (length xs) 32
all_blank [] e = refl
all_blank (x ∷ xs) e = go (λ p. all_blank xs p) (blank x) refl
  where
    go : (list_all blank xs ≡ true → xs ≡ replicate (length xs) 32) → (v : Bool) → blank x ≡ v → (x ∷ xs) ≡ replicate (length (x ∷ xs)) 32
    go r true v = ap₂ (λ (a : ℕ) (l : List ℕ). a ∷ l) (eqb-true x 32 v) (r (rw v at e))
    go r false v = absurd (true≢false (sym (rw v at e)))

blanks_pass : (n : ℕ) → list_all blank (replicate n 32) ≡ true
blanks_pass zero = refl
blanks_pass (suc n) = blanks_pass n

-- this many blanks at the front
pub blank_front : (xs : List ℕ) (gap : ℕ) → gap ≤ length xs → list_all (λ b. b == 32) (take gap xs) ≡ true → xs ≡ replicate gap 32 ++ drop gap xs
blank_front xs gap le e =
    let long : length (take gap xs) ≡ gap = length-take-le gap xs le in
    sym (take-append-drop gap xs) ∙ ap (λ l. l ++ drop gap xs) (all_blank (take gap xs) e ∙ ap (λ n. replicate {A = ℕ} n 32) long)

front_of : (n : ℕ) (xs front rest : List ℕ) → length front ≡ n → xs ≡ front ++ rest → take n xs ≡ front
front_of n xs front rest e f = ap₂ take (sym e) f ∙ take-append_seam front rest

pub not_blank : (xs : List ℕ) (gap : ℕ) (text rest : List ℕ) → (nat_le gap (length xs) && list_all (λ b. b == 32) (take gap xs)) ≡ false → xs ≢ (replicate gap 32 ++ text) ++ rest
not_blank xs gap text rest e f =
    let whole : xs ≡ replicate gap 32 ++ (text ++ rest) = f ∙ append_assoc (replicate gap 32) text rest in
    let long : gap ≤ length xs = omega (arith, ap length whole, length-append (replicate gap 32) (text ++ rest), length-replicate {A = ℕ} gap 32) in
    let within : nat_le gap (length xs) ≡ true = grind arith in
    let front : take gap xs ≡ replicate gap 32 = front_of gap xs (replicate gap 32) (text ++ rest) (length-replicate {A = ℕ} gap 32) whole in
    let all : list_all blank (take gap xs) ≡ true = ap (list_all blank) front ∙ blanks_pass gap in
    true≢false (sym (ap₂ ◌&&◌ within all) ∙ e)

-- the text at the front
pub text_front : (xs text : List ℕ) → starts_with nat_eq xs text ≡ true → xs ≡ text ++ drop (length text) xs
text_front xs text e = sym (take-append-drop (length text) xs) ∙ ap (λ l. l ++ drop (length text) xs) (sym (same_text text (take (length text) xs) (sym e)))

pub not_text : (xs text rest : List ℕ) → starts_with nat_eq xs text ≡ false → xs ≢ text ++ rest
not_text xs text rest e f = other_text text (take (length text) xs) (sym e) (sym (front_of (length text) xs text rest refl f))

-- the text is a part of the text in which it is searched for
pub front_text : (xs text : List ℕ) → text ≡ take (length text) xs → starts_with nat_eq xs text ≡ true
front_text xs text e = go (starts_with nat_eq xs text) refl
  where
    whole : xs ≡ text ++ drop (length text) xs
    whole = sym (take-append-drop (length text) xs) ∙ ap (λ l. l ++ drop (length text) xs) (sym e)

    go : (v : Bool) → starts_with nat_eq xs text ≡ v → starts_with nat_eq xs text ≡ true
    go true v = v
    go false v = absurd (not_text xs text (drop (length text) xs) v whole)

pub after : (gap at : ℕ) (left bytes : List ℕ) → left ≡ drop at bytes → drop gap left ≡ drop (at + gap) bytes
after gap at left bytes e = ap (drop gap) e ∙ twice
  where
    twice : drop gap (drop at bytes) ≡ drop (at + gap) bytes
    twice = grind (arith, common_steps)

-- a piece at a place
pub piece_found : (xs : List ℕ) (at gap : ℕ) (text : List ℕ) → drop at xs ≡ replicate gap 32 ++ drop gap (drop at xs) → drop gap (drop at xs) ≡ text ++ drop (length text) (drop gap (drop at xs))
    → drop at xs ≡ (replicate gap 32 ++ text) ++ drop (at + gap + length text) xs
piece_found xs at gap text e f =
    let there : drop (length text) (drop gap (drop at xs)) ≡ drop (at + gap + length text) xs = grind (arith, common_steps) in
    e ∙ ap (λ l. replicate gap 32 ++ l) (f ∙ ap (λ l. text ++ l) there) ∙ sym (append_assoc (replicate gap 32) text (drop (at + gap + length text) xs))

-- a piece of the source, after this many blanks there
pub piece_there : (xs : List ℕ) (at gap start : ℕ) (text : List ℕ) → at + gap ≡ start → text ≡ take (length text) (drop start xs) → drop at xs ≡ replicate gap 32 ++ drop gap (drop at xs)
    → drop at xs ≡ (replicate gap 32 ++ text) ++ drop (start + length text) xs
piece_there xs at gap start text e s b =
    let here : drop gap (drop at xs) ≡ drop start xs = after gap at (drop at xs) xs refl ∙ ap (λ k. drop k xs) e in
    let front : drop start xs ≡ text ++ drop (length text) (drop start xs) = sym (take-append-drop (length text) (drop start xs)) ∙ ap (λ l. l ++ drop (length text) (drop start xs)) (sym s) in
    piece_found xs at gap text b (subst (λ l. l ≡ text ++ drop (length text) l) (sym here) front) ∙ ap (λ k. (replicate gap 32 ++ text) ++ drop (k + length text) xs) e

pub other_piece : (xs : List ℕ) (gap : ℕ) (text rest : List ℕ) → xs ≡ replicate gap 32 ++ drop gap xs → starts_with nat_eq (drop gap xs) text ≡ false → xs ≢ (replicate gap 32 ++ text) ++ rest
other_piece xs gap text rest e f g =
    let whole : xs ≡ replicate gap 32 ++ (text ++ rest) = g ∙ append_assoc (replicate gap 32) text rest in
    let after : drop gap xs ≡ text ++ rest = ap₂ drop (sym (length-replicate {A = ℕ} gap 32)) whole ∙ drop-append_seam (replicate gap 32) (text ++ rest) in
    not_text (drop gap xs) text rest f after

-- ---- the whole

-- the source is the print if its rest is the rest of the print
pub record Agrees (whole text : List ℕ) (rest : List ℕ) (at : ℕ) : Type 0 where
  pub on : whole ≡ text → rest ≡ drop at text
  pub back : rest ≡ drop at text → whole ≡ text

pub agrees_all : (whole text rest : List ℕ) → rest ≡ whole → Agrees whole text rest 0
agrees_all whole text rest e = record { on = λ p. e ∙ p; back = λ p. sym e ∙ p }

append_same : (xs ys zs : List ℕ) → xs ++ ys ≡ xs ++ zs → ys ≡ zs
append_same [] ys zs e = e
append_same (x ∷ xs) ys zs e = append_same xs ys zs (cc)

pub agrees_more : (whole text piece rest rest' : List ℕ) (at end : ℕ) → rest ≡ piece ++ rest' → drop at text ≡ piece ++ drop end text → Agrees whole text rest at → Agrees whole text rest' end
agrees_more whole text piece rest rest' at end e f p = record {
  on = λ q. append_same piece rest' (drop end text) (sym e ∙ p.on q ∙ f);
  back = λ q. p.back (e ∙ ap (λ l. piece ++ l) q ∙ sym f);
}

pub differs : (whole text piece rest rest' : List ℕ) (at : ℕ) → rest ≡ piece ++ rest' → ((more : List ℕ) → drop at text ≢ piece ++ more) → Agrees whole text rest at → whole ≢ text
differs whole text piece rest rest' at e f p q = f rest' (sym (p.on q) ∙ e)

drop_none : (at : ℕ) (text : List ℕ) → drop at text ≡ [] → length text ≤ at
drop_none at text e = omega (arith, ap length e, Rattle.std.proofs.Common.length-drop at text)

none_left : (at : ℕ) (text : List ℕ) → length text ≤ at → drop at text ≡ []
none_left at text le = grind (arith, common_steps)

pub agrees_end : (whole text rest : List ℕ) (at : ℕ) (b : Bool) → rest ≡ [] → at ≤ length text → b ≡ (at == length text) → Agrees whole text rest at → IsTrue b ↔ (whole ≡ text)
agrees_end whole text rest at b e le f p =
    ((λ t. p.back (e ∙ sym (none_left at text (end (sym f ∙ t))))), (λ q. f ∙ full (drop_none at text (sym (p.on q) ∙ e))))
  where
    end : nat_eq at (length text) ≡ true → length text ≤ at
    end t = grind arith

    full : length text ≤ at → nat_eq at (length text) ≡ true
    full t = grind arith

pub blank_parts : (gap n : ℕ) (b : Bool) → (nat_le gap n && b) ≡ true → (gap ≤ n) × (b ≡ true)
blank_parts gap n b e = go (nat_le gap n) refl
  where
    go : (v : Bool) → nat_le gap n ≡ v → (gap ≤ n) × (b ≡ true)
    go true v = (grind arith, rw v at e)
    go false v = absurd (true≢false (sym (rw v at e)))
