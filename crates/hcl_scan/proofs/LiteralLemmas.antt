-- The length of escapes and elements of literal text.
use Rattle.std.proofs.Common.{◌≡◌, ℕ, zero, suc, ◌+◌, ◌<◌, ◌≤◌, ◌&&◌, ◌||◌, ◌==◌, Bool, true, false, List, [], ◌∷◌, length, take, drop, if◌then◌else◌, Option, Some, None, refl, ap, subst, arith, length-drop, codes}
use Rattle.std.specs.List.{list_all}
use Rattle.std.specs.Char.{is_ascii_hexdigit}
use Rattle.hcl_scan.proofs.TextStartLemmas.{both}
use Rattle.hcl_tokens.specs.Spelling.{starts, escape_len, element_len, ends_quoted, is_dollar_or_percent, hex_digits_after}

pub starts_len : (text front : List ℕ) → starts text front ≡ true → length front ≤ length text
starts_len text [] h = omega arith
starts_len [] (c ∷ front) h = absurd (cc)
starts_len (b ∷ text) (c ∷ front) h = omega (arith, starts_len text front (both (b == c) (starts text front) h).1)

pub hexes_len : (n : ℕ) (text : List ℕ) → hex_digits_after n text ≡ true → n ≤ length text
hexes_len zero text h = omega arith
hexes_len (suc n) [] h = absurd (cc)
hexes_len (suc n) (b ∷ text) h = omega (arith, hexes_len n text (both (is_ascii_hexdigit b) (hex_digits_after n text) h).1)

pub hexes_short : (n : ℕ) (text : List ℕ) → length text < n → hex_digits_after n text ≡ false
hexes_short zero text h = absurd (omega arith)
hexes_short (suc n) [] h = refl
hexes_short (suc n) (b ∷ text) h = by (is_ascii_hexdigit b) (hexes_short n text (omega arith))
  where
    by : (v : Bool) {w : Bool} → w ≡ false → (v && w) ≡ false
    by true k = k
    by false k = refl

pub hexes_are : (n : ℕ) (text : List ℕ) → n ≤ length text → hex_digits_after n text ≡ list_all is_ascii_hexdigit (take n text)
hexes_are zero text h = refl
hexes_are (suc n) [] h = absurd (omega arith)
hexes_are (suc n) (b ∷ text) h = ap (λ v. is_ascii_hexdigit b && v) (hexes_are n text (omega arith))

abbrev pub IsPart : List ℕ → ℕ → Type 0
IsPart text n = (0 < n) × (n ≤ length text)

-- an option that holds a number that fits, if any
abbrev pub IsPartIfSome : List ℕ → Option ℕ → Type 0
IsPartIfSome text None = Unit {0}
IsPartIfSome text (Some n) = IsPart text n

escape_by : (text : List ℕ) (p u v : Bool) → (p ≡ true → 2 ≤ length text) → (u ≡ true → 6 ≤ length text) → (v ≡ true → 10 ≤ length text) → IsPartIfSome text (if p then Some 2 else (if u then Some 6 else (if v then Some 10 else None)))
escape_by text true u v x y z = (omega arith, x refl)
escape_by text false true v x y z = (omega arith, y refl)
escape_by text false false true x y z = (omega arith, z refl)
escape_by text false false false x y z = tt

either : (a b : Bool) {P : Type 0} → (a ≡ true → P) → (b ≡ true → P) → (a || b) ≡ true → P
either true b f g h = f refl
either false b f g h = g h

long_front : (text front : List ℕ) (n : ℕ) → length front ≡ 2 → (starts text front && hex_digits_after n (drop 2 text)) ≡ true → 2 + n ≤ length text
long_front text front n two h =
    let some = starts_len text front (both (starts text front) (hex_digits_after n (drop 2 text)) h).0 in
    let hex = hexes_len n (drop 2 text) (both (starts text front) (hex_digits_after n (drop 2 text)) h).1 in
    omega (arith, some, hex, two, length-drop 2 text)

pub escape_fits : (text : List ℕ) → IsPartIfSome text (escape_len text)
escape_fits text = escape_by text (starts text (codes "\\n") || starts text (codes "\\r") || starts text (codes "\\t") || starts text (codes "\\\"") || starts text (codes "\\\\"))
    (starts text (codes "\\u") && hex_digits_after 4 (drop 2 text)) (starts text (codes "\\U") && hex_digits_after 8 (drop 2 text))
    (λ h. either _ _ (λ k. either _ _ (λ l. either _ _ (λ m. either _ _ (λ p. starts_len text (codes "\\n") p) (λ p. starts_len text (codes "\\r") p) m) (λ p. starts_len text (codes "\\t") p) l) (λ p. starts_len text (codes "\\\"") p) k) (λ p. starts_len text (codes "\\\\") p) h)
    (λ h. long_front text (codes "\\u") 4 refl h) (λ h. long_front text (codes "\\U") 8 refl h)

element_by : (text : List ℕ) (d s o q : Bool) (e : Option ℕ) → 0 < length text → (d ≡ true → 3 ≤ length text) → IsPartIfSome text e → IsPartIfSome text (if d then Some 3 else (if s then (if o then None else Some 1) else (if q then e else Some 1)))
element_by text true s o q e some x y = (omega arith, x refl)
element_by text false true true q e some x y = tt
element_by text false true false q e some x y = (omega arith, omega arith)
element_by text false false o true e some x y = y
element_by text false false o false e some x y = (omega arith, omega arith)

pub element_fits : (quoted : Bool) (text : List ℕ) → IsPartIfSome text (element_len quoted text)
element_fits quoted [] = tt
element_fits quoted (b ∷ after) = element_by (b ∷ after) (starts (b ∷ after) (codes "$${") || starts (b ∷ after) (codes "%%{")) (is_dollar_or_percent b) (starts after (codes "{")) (quoted && ends_quoted b after) (escape_len (b ∷ after)) (omega arith)
    (λ h. either _ _ (λ p. starts_len (b ∷ after) (codes "$${") p) (λ p. starts_len (b ∷ after) (codes "%%{") p) h)
    (escape_fits (b ∷ after))

-- this many bytes, if there is one
pub element_is : (quoted : Bool) (text : List ℕ) (n : ℕ) → element_len quoted text ≡ Some n → IsPart text n
element_is quoted text n h = subst (λ o. IsPartIfSome text o) h (element_fits quoted text)
