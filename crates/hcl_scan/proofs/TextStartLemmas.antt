-- The meaning of a text that starts with another.
use Rattle.std.proofs.Common.{◌≡◌, ◌≢◌, ℕ, ◌&&◌, ◌==◌, Bool, true, false, List, [], ◌∷◌, ◌++◌, refl, ap₂, nat_eq, take, drop, length, arith}
use Rattle.std.specs.List.{starts_with}
use Rattle.std.proofs.lemmas.Bool.Decides.{nat_tests}
use Rattle.hcl_tokens.specs.Spelling.{starts}

turned : (b c : ℕ) → (c == b) ≡ (b == c)
turned b c = grind (arith, nat_tests)

pub starts_same : (text front : List ℕ) → starts_with nat_eq text front ≡ starts text front
starts_same [] [] = refl
starts_same (b ∷ text) [] = refl
starts_same [] (c ∷ front) = refl
starts_same (b ∷ text) (c ∷ front) = (λ i. turned b c i && starts_same text front i)

pub both : (a b : Bool) → (a && b) ≡ true → (a ≡ true) × (b ≡ true)
both true b h = (refl, h)
both false b h = absurd (cc)

same : (b c : ℕ) → (b == c) ≡ true → b ≡ c
same b c h = grind (arith, nat_tests)

-- the text is that front and more
pub starts_is : (text front : List ℕ) → starts text front ≡ true → text ≡ front ++ drop (length front) text
starts_is text [] h = refl
starts_is [] (c ∷ front) h = absurd (cc)
starts_is (b ∷ text) (c ∷ front) h =
    let w = both (b == c) (starts text front) h in
    let e : b ≡ c = same b c w.0 in
    let f : text ≡ front ++ drop (length front) text = starts_is text front w.1 in
    λ i. e i ∷ f i

itself : (b : ℕ) → (b == b) ≡ true
itself b = grind (arith, nat_tests)

pub starts_so : (front rest : List ℕ) → starts (front ++ rest) front ≡ true
starts_so [] [] = refl
starts_so [] (r ∷ rest) = refl
starts_so (c ∷ front) rest = (λ i. itself c i && starts_so front rest i)

-- of two texts of one length
pub starts_whole : (text front : List ℕ) → length text ≡ length front → starts text front ≡ true → text ≡ front
starts_whole [] [] long h = refl
starts_whole (b ∷ text) [] long h = absurd (omega (arith, long))
starts_whole [] (c ∷ front) long h = absurd (cc)
starts_whole (b ∷ text) (c ∷ front) long h =
    let parts = both (b == c) (starts text front) h in ap₂ (λ x xs. x ∷ xs) (same b c parts.0) (starts_whole text front (omega (arith, long)) parts.1)

-- the test reads no more of the text than the front is long
pub starts_taken : (text front : List ℕ) → starts (take (length front) text) front ≡ starts text front
starts_taken text [] = refl
starts_taken [] (c ∷ front) = refl
starts_taken (b ∷ text) (c ∷ front) = (λ i. (b == c) && starts_taken text front i)

pub is_false : (b : Bool) → (b ≡ true → ⊥) → false ≡ b
is_false true p = absurd (p refl)
is_false false p = refl

pub starts_other : (text front : List ℕ) → length text ≡ length front → text ≢ front → false ≡ starts text front
starts_other text front long other = is_false (starts text front) (λ h. other (starts_whole text front long h))
