-- Words that are taken into a list.
use Rattle.std.proofs.Common.{◌≡◌, ◌∙◌, ◌++◌, ◌∷◌, [], ℕ, Bool, true, false, List, ap, append-nil, cond, map, refl, sym}
use Rattle.std.specs.Borrow.{Bor}
use Rattle.std.specs.Str.{IsUtf8, is_utf8}
use Rattle.std.proofs.lemmas.List.{map-append}
use Rattle.std.proofs.lemmas.Str.{IsUtf8-from_is_utf8}

abbrev now_of : Bor (List ℕ) → List ℕ
now_of word = word.now

-- ---- one more word

pub not_utf8 : (word : List ℕ) → (IsUtf8 word → ⊥) → is_utf8 word ≡ false
not_utf8 word isnt = by (is_utf8 word) refl
  where
    by : (v : Bool) → is_utf8 word ≡ v → is_utf8 word ≡ false
    by true e = absurd (isnt (IsUtf8-from_is_utf8 word e))
    by false e = e

pub one_more : (old new : List (Bor (List ℕ))) (text : Bor (List ℕ)) (word : List ℕ) (v : Bool) → new ≡ old ++ text ∷ [] → text.now ≡ word → v ≡ true
    → map (λ text. text.now) new ≡ map (λ text. text.now) old ++ cond v (word ∷ []) []
one_more old new text word v e same is =
    ap (map now_of) e ∙ map-append now_of old (text ∷ []) ∙ ap (λ w. map now_of old ++ w ∷ []) same ∙ ap (λ b. map now_of old ++ cond b (word ∷ []) []) (sym is)

pub none_more : (old : List (List ℕ)) (word : List ℕ) (v : Bool) → v ≡ false → old ≡ old ++ cond v (word ∷ []) []
none_more old word v is = sym (append-nil old) ∙ ap (λ b. old ++ cond b (word ∷ []) []) (sym is)
