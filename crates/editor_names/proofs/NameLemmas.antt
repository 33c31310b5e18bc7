-- The name at a place, by the code's occurrences.
use Rattle.std.proofs.Common.{◌≡◌, ◌∙◌, ◌∷◌, [], ℕ, suc, Bool, true, false, List, ap, arith, cond, map, refl, subst, sym}
use Rattle.std.specs.Prelude.{◌||◌, All, Option, Some, find, option_map}
use Rattle.std.specs.List.{list_any}
use Rattle.hcl_tokens.specs.Scanned.{Scanned}
use Rattle.text_places.specs.Places.{offset_at}
use Rattle.text_places.specs.declared.place.Place.{Place}
use Rattle.text_places.specs.declared.place.Units.{Units}
use Rattle.tf_names.specs.Names.{Occurrence as OccurrenceOf, occurrences}
use Rattle.tf_names.specs.Views.{occurrence_seen}
use Rattle.tf_names.specs.declared.occurrence.Occurrence.{Occurrence}
use Rattle.editor_names.specs.Names.{is_at, name_in, named_range}

first_seen : (offset : ℕ) (found : List Occurrence) → find (is_at offset) (map occurrence_seen found) ≡ option_map occurrence_seen (find (λ o. is_at offset (occurrence_seen o)) found)
first_seen offset [] = refl
first_seen offset (o ∷ os) = by (is_at offset (occurrence_seen o)) (first_seen offset os)
  where
    by : (here : Bool) → find (is_at offset) (map occurrence_seen os) ≡ option_map occurrence_seen (find (λ p. is_at offset (occurrence_seen p)) os)
        → cond here (Some (occurrence_seen o)) (find (is_at offset) (map occurrence_seen os)) ≡ option_map occurrence_seen (cond here (Some o) (find (λ p. is_at offset (occurrence_seen p)) os))
    by true e = refl
    by false e = e

-- one of the occurrences passes a test
pub any_seen : (is : OccurrenceOf → Bool) (found : List Occurrence) → list_any (λ o. is (occurrence_seen o)) found ≡ list_any is (map occurrence_seen found)
any_seen is [] = refl
any_seen is (o ∷ os) = ap (λ b. is (occurrence_seen o) || b) (any_seen is os)

-- the named range of the first occurrence at a place
pub name_found : (units : Units) (place : Place) (s : Scanned) (found : List Occurrence) (offset : ℕ) (first : Option Occurrence) → map occurrence_seen found ≡ occurrences s → offset ≡ offset_at units s.text place
    → first ≡ find (λ o. is_at offset (occurrence_seen o)) found → option_map (named_range units s.text) (option_map occurrence_seen first) ≡ name_in units place s
name_found units place s found offset first are at is =
    ap (λ (f : Option Occurrence). option_map (named_range units s.text) (option_map occurrence_seen f)) is
    ∙ ap (option_map (named_range units s.text)) (sym (first_seen offset found))
    ∙ ap (λ os. option_map (named_range units s.text) (find (is_at offset) os)) are
    ∙ ap (λ o. option_map (named_range units s.text) (find (is_at o) (occurrences s))) at

-- the first element that passes a test has each property that all have
pub found_has : {X : Type 0} (P : X → Type 0) (is : X → Bool) (xs : List X) (x : X) → find is xs ≡ Some x → All P xs → P x
found_has P is [] x e all = absurd (cc)
found_has P is (y ∷ ys) x e all = by (is y) (λ h. found_has P is ys x h (λ k d lt. all (suc k) d (omega (arith, lt)))) e
  where
    by : (here : Bool) → (find is ys ≡ Some x → P x) → cond here (Some y) (find is ys) ≡ Some x → P x
    by true rest h =
        let same : y ≡ x = cc in
        subst P same (all 0 y (omega arith))
    by false rest h = rest h
