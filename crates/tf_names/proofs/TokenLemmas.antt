-- The ends of tokens.
use Rattle.std.proofs.Common.{◌≡◌, ◌+◌, ◌≤◌, ◌∷◌, [], ℕ, zero, suc, List, ap, arith, drop, length, length-drop, sym, take}
use Rattle.std.specs.Prelude.{Some, slice_get}
use Rattle.std.specs.Str.{IsCharBoundary}
use Rattle.std.proofs.lemmas.List.{length-take}
use Rattle.hcl_tokens.specs.Lexemes.{Lexeme}
use Rattle.tf_names.specs.Names.{stop_of}

pub stop_here : (ts : List Lexeme) (n : ℕ) (t : Lexeme) → slice_get ts n ≡ Some t → t.start + length t.text ≡ stop_of ts n
stop_here [] n t e = absurd (cc)
stop_here (x ∷ xs) zero t e =
    let same : x ≡ t = cc in
    ap (λ (u : Lexeme). u.start + length u.text) (sym same)
stop_here (x ∷ xs) (suc n) t e = stop_here xs n t e

pub stops_within : (text part : List ℕ) (start : ℕ) → IsCharBoundary text start → part ≡ take (length part) (drop start text) → start + length part ≤ length text
stops_within text part start edge is =
    let short : length part ≡ length (take (length part) (drop start text)) = ap length is in
    omega (arith, short, length-take (length part) (drop start text), length-drop start text, edge.0)
