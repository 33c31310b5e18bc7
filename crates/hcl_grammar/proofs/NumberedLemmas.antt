-- Numbered tokens from one of them on.
use Rattle.std.proofs.Common.{◌≡◌, ◌∙◌, ap, sym, refl, ℕ, suc, zero, ◌+◌, ◌<◌, ◌≤◌, List, [], ◌∷◌, drop, drop-cons, length, get_or, arith}
use Rattle.std.specs.Prelude.{Some, slice_get}
use Rattle.std.proofs.lemmas.Option.{slice_get_within, get_or_from_slice_get}
use Rattle.hcl_tokens.specs.Lexemes.{Lexeme}
use Rattle.hcl_grammar.specs.Numbered.{Numbered, number_tokens, numbered_from}

pub drop_at : {X : Type 0} (ts : List X) (n : ℕ) (t : X) → slice_get ts n ≡ Some t → drop n ts ≡ t ∷ drop (n + 1) ts
drop_at ts n t e =
    let within : n < length ts = slice_get_within ts n t e in
    let got : get_or ts n t ≡ t = get_or_from_slice_get ts n t t e in
    let more : suc n ≡ n + 1 = omega arith in
    drop-cons ts n t within ∙ ap (λ x. x ∷ drop (suc n) ts) got ∙ ap (λ j. t ∷ drop j ts) more

abbrev pub number_of : ℕ → Lexeme → Numbered
number_of n t = record { number = n; kind = t.kind; text = t.text }

pub drop_numbered : (n : ℕ) (xs : List Lexeme) (k : ℕ) → drop n (numbered_from k xs) ≡ numbered_from (k + n) (drop n xs)
drop_numbered zero xs k = let z : k + 0 ≡ k = omega arith in ap (λ j. numbered_from j xs) (sym z)
drop_numbered (suc n) [] k = refl
drop_numbered (suc n) (x ∷ xs) k = let s : k + suc n ≡ k + 1 + n = omega arith in drop_numbered n xs (k + 1) ∙ ap (λ j. numbered_from j (drop n xs)) (sym s)

pub numbered_at : (ts : List Lexeme) (n : ℕ) → drop n (number_tokens ts) ≡ numbered_from n (drop n ts)
numbered_at ts n = let z : 0 + n ≡ n = omega arith in drop_numbered n ts 0 ∙ ap (λ j. numbered_from j (drop n ts)) z

pub numbered_here : (ts : List Lexeme) (n : ℕ) (t : Lexeme) → slice_get ts n ≡ Some t → drop n (number_tokens ts) ≡ number_of n t ∷ numbered_from (n + 1) (drop (n + 1) ts)
numbered_here ts n t e = numbered_at ts n ∙ ap (numbered_from n) (drop_at ts n t e)

pub numbered_past : (ts : List Lexeme) (n : ℕ) → length ts ≤ n → drop n (number_tokens ts) ≡ []
numbered_past ts n h = numbered_at ts n ∙ ap (numbered_from n) (past ts n h)
  where
    past : (xs : List Lexeme) (k : ℕ) → length xs ≤ k → drop k xs ≡ []
    past [] zero h = refl
    past [] (suc k) h = refl
    past (x ∷ xs) zero h = absurd (omega arith)
    past (x ∷ xs) (suc k) h = past xs k (omega arith)
