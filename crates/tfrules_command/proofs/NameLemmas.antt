-- Names of files, each once.
use Rattle.std.proofs.Common.{◌≡◌, ◌<◌, ◌++◌, ℕ, Bool, true, false, List, [], ◌∷◌, cond, length, refl, sym, ap, ◌∙◌, lit≤, arith}
use Rattle.std.specs.Prelude.{◌||◌}
use Rattle.std.specs.List.{list_any}
use Rattle.std.specs.Str.{bytes_eq}
use Rattle.tfrules_command.specs.Line.{NoneTwice, with_name}

first_false : (a b : Bool) → (a || b) ≡ false → a ≡ false
first_false false b e = refl
first_false true b e = e

last_false : (a b : Bool) → (a || b) ≡ false → b ≡ false
last_false false b e = e
last_false true b e = absurd (off e)
  where
    off : true ≡ false → ⊥
    off h = cc

both_false : (a b : Bool) → a ≡ false → b ≡ false → (a || b) ≡ false
both_false a b e f = ap (λ x. x || b) e ∙ f

any_after : (f : List ℕ → Bool) (ns : List (List ℕ)) (x : List ℕ) → list_any f ns ≡ false → f x ≡ false → list_any f (ns ++ x ∷ []) ≡ false
any_after f [] x e h = both_false (f x) false h refl
any_after f (n ∷ ns) x e h = both_false (f n) (list_any f (ns ++ x ∷ [])) (first_false (f n) (list_any f ns) e) (any_after f ns x (last_false (f n) (list_any f ns) e) h)

apart_after : (ns : List (List ℕ)) (x : List ℕ) → NoneTwice ns → list_any (λ known. bytes_eq known x) ns ≡ false → NoneTwice (ns ++ x ∷ [])
apart_after [] x d e = (refl, tt)
apart_after (n ∷ ns) x d e =
    (any_after (bytes_eq n) ns x d.0 (first_false (bytes_eq n x) (list_any (λ known. bytes_eq known x) ns) e), apart_after ns x d.1 (last_false (bytes_eq n x) (list_any (λ known. bytes_eq known x) ns) e))

pub apart_with : (ns : List (List ℕ)) (x : List ℕ) → NoneTwice ns → NoneTwice (with_name ns x)
apart_with ns x d = by (list_any (λ known. bytes_eq known x) ns) refl
  where
    by : (b : Bool) → list_any (λ known. bytes_eq known x) ns ≡ b → NoneTwice (cond b ns (ns ++ x ∷ []))
    by true e = d
    by false e = apart_after ns x d e

some_after : (ns : List (List ℕ)) (x : List ℕ) → 0 < length (ns ++ x ∷ [])
some_after [] x = lit≤ tt
some_after (n ∷ ns) x = omega arith

pub some_with : (ns : List (List ℕ)) (x : List ℕ) → 0 < length (with_name ns x)
some_with [] x = lit≤ tt
some_with (n ∷ ns) x = by (list_any (λ known. bytes_eq known x) (n ∷ ns))
  where
    by : (b : Bool) → 0 < length (cond b (n ∷ ns) (n ∷ ns ++ x ∷ []))
    by true = omega arith
    by false = some_after (n ∷ ns) x
