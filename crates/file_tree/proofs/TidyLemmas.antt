-- Paths that are joined part by part.
use Rattle.std.proofs.Common.{◌≡◌, ◌∙◌, ◌<◌, ◌+◌, ◌++◌, ◌∷◌, [], ℕ, Bool, true, false, List, Result, Ok, Err, is_err, is_ok, ap, append_assoc, append-nil, cond, filter, get_or, length, refl, sym, take}
use Rattle.std.specs.Prelude.{◌||◌, if◌then◌else◌}
use Rattle.std.specs.List.{join_with_byte}
use Rattle.std.proofs.lemmas.List.Elements.{filter_more}
use Rattle.file_tree.specs.Files.{Name}
use Rattle.file_tree.specs.Paths.{is_step}
use Rattle.file_tree.specs.Inner.Steps.{Joined, added_text, gap, has_any}

-- the text after a push that didn't fail
pub pushed : {X Y E : Type 0} (r : Result Y E) (v : Bool) (old new : List X) (x : X) → new ≡ (if is_ok r then old ++ x ∷ [] else old) → v ≡ is_err r → v ≡ false → new ≡ old ++ x ∷ []
pushed (Ok y) v old new x is said good = is
pushed (Err e) v old new x is said good = absurd (no (sym said ∙ good))
  where
    no : true ≡ false → ⊥
    no h = cc

-- ---- one part

pub nothing_added : (has : Bool) (part old new : Name) → is_step part ≡ false → new ≡ old → new ≡ old ++ added_text has part
nothing_added has part old new e same = same ∙ sym (append-nil old) ∙ ap (λ (v : Bool). old ++ (if v then gap has ++ part else [])) (sym e)

pub something_added : (has : Bool) (part old before mid new : Name) → is_step part ≡ true → before ≡ gap has → mid ≡ old ++ before → new ≡ mid ++ part → new ≡ old ++ added_text has part
something_added has part old before mid new e is first last =
    last ∙ ap (λ m. m ++ part) first ∙ append_assoc old before part ∙ ap (λ g. old ++ (g ++ part)) is ∙ ap (λ (v : Bool). old ++ (if v then gap has ++ part else [])) (sym e)

pub still_has : (has v : Bool) → v ≡ false → has ≡ (has || v)
still_has true v e = refl
still_has false v e = sym e

pub has_now : (has v : Bool) → v ≡ true → true ≡ (has || v)
has_now true v e = refl
has_now false v e = sym e

-- ---- the parts in turn

join_more : (p : Name) (ps : List Name) (part : Name) → join_with_byte 47 (p ∷ (ps ++ part ∷ [])) ≡ join_with_byte 47 (p ∷ ps) ++ (47 ∷ part)
join_more p [] part = refl
join_more p (q ∷ ps) part = ap (λ t. p ++ (47 ∷ t)) (join_more q ps part) ∙ sym (append_assoc p (47 ∷ join_with_byte 47 (q ∷ ps)) (47 ∷ part))

pub joined_none : (front path : Name) → path ≡ front → Joined front [] path false
joined_none front path e = (e ∙ sym (append-nil front), refl)

joined_by : (v : Bool) (front : Name) (ps : List Name) (part path path' : Name) (has has' : Bool) → Joined front ps path has → path' ≡ path ++ (if v then gap has ++ part else [])
    → has' ≡ (has || v) → Joined front (ps ++ cond v (part ∷ []) []) path' has'
joined_by false front ps part path path' has has' so more now = (
  more ∙ append-nil path ∙ so.0 ∙ ap (λ l. front ++ join_with_byte 47 l) (sym (append-nil ps)),
  now ∙ or_false has ∙ so.1 ∙ ap has_any (sym (append-nil ps)),
)
  where
    or_false : (w : Bool) → (w || false) ≡ w
    or_false true = refl
    or_false false = refl
joined_by true front [] part path path' has has' so more now = (
  more ∙ ap (λ (w : Bool). path ++ (gap w ++ part)) so.1 ∙ ap (λ p. p ++ part) (so.0 ∙ append-nil front),
  now ∙ or_true has,
)
  where
    or_true : (w : Bool) → (w || true) ≡ true
    or_true true = refl
    or_true false = refl
joined_by true front (p ∷ ps) part path path' has has' so more now = (
  more ∙ ap (λ (w : Bool). path ++ (gap w ++ part)) so.1 ∙ ap (λ l. l ++ (47 ∷ part)) so.0 ∙ append_assoc front (join_with_byte 47 (p ∷ ps)) (47 ∷ part) ∙ ap (λ l. front ++ l) (sym (join_more p ps part)),
  now ∙ or_true has,
)
  where
    or_true : (w : Bool) → (w || true) ≡ true
    or_true true = refl
    or_true false = refl

pub joined_more : (front : Name) (ps : List Name) (part path path' : Name) (has has' : Bool) → Joined front ps path has → (path' ≡ path ++ added_text has part) × (has' ≡ (has || is_step part))
    → Joined front (ps ++ cond (is_step part) (part ∷ []) []) path' has'
joined_more front ps part path path' has has' so step = joined_by (is_step part) front ps part path path' has has' so step.0 step.1

pub steps_more : (all : List Name) (n m : ℕ) (part : Name) → n < length all → part ≡ get_or all n part → m ≡ n + 1
    → filter is_step (take n all) ++ cond (is_step part) (part ∷ []) [] ≡ filter is_step (take m all)
steps_more all n m part within is later =
    ap (λ (x : Name). filter is_step (take n all) ++ cond (is_step x) (x ∷ []) []) is ∙ sym (filter_more is_step all n part within) ∙ ap (λ k. filter is_step (take k all)) (sym later)
