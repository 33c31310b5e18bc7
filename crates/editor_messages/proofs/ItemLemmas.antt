-- Items of an array.
use Rattle.std.proofs.Common.{◌≡◌, ◌∙◌, ◌-◌, ◌∷◌, ◌||◌, [], ℕ, List, Bor, ap, arith, length, refl, sym}
use Rattle.std.specs.Prelude.{Option, Some, None, option_map}
use Rattle.std.specs.List.{list_any, slice_get}
use Rattle.std.specs.Option.{option_copied}
use Rattle.json.specs.Find.{as_str, later_or}
use Rattle.json.specs.Value.{items_view, value_view}
use Rattle.json.specs.declared.value.Value.{Value}
use Rattle.editor_messages.specs.Messages.{has_text, is_text, last_item}

pub any_text : {A : Type 0} (text : List ℕ) (vs : List (Value A)) → has_text text (items_view vs) ≡ list_any (λ v. is_text text (as_str (value_view v))) vs
any_text text [] = refl
any_text text (v ∷ vs) = ap (λ b. is_text text (as_str (value_view v)) || b) (any_text text vs)

-- the last of some values
abbrev final : {A : Type 0} → A → List A → A
final v [] = v
final v (w ∷ vs) = final w vs

final_get : {A : Type 0} (v : A) (vs : List A) → slice_get (v ∷ vs) (length vs) ≡ Some (final v vs)
final_get v [] = refl
final_get v (w ∷ vs) = final_get w vs

final_item : {A : Type 0} (v : Value A) (vs : List (Value A)) → last_item (items_view (v ∷ vs)) ≡ Some (value_view (final v vs))
final_item v [] = refl
final_item v (w ∷ vs) = ap (λ o. later_or o (Some (value_view v))) (final_item w vs)

last_get : {A : Type 0} (vs : List (Value A)) → option_map value_view (slice_get vs (length vs - 1)) ≡ last_item (items_view vs)
last_get [] = refl
last_get (v ∷ vs) =
    let e : length (v ∷ vs) - 1 ≡ length vs = omega arith in
    ap (λ n. option_map value_view (slice_get (v ∷ vs) n)) e ∙ ap (option_map value_view) (final_get v vs) ∙ sym (final_item v vs)

copied : {A B : Type 0} (f : A → B) (r : Option (Bor A)) → option_map (λ v. f v.now) r ≡ option_map f (option_copied r)
copied f None = refl
copied f (Some r) = refl

pub last_seen : {A : Type 0} (r : Option (Bor (Value A))) (vs : List (Value A)) → option_copied r ≡ slice_get vs (length vs - 1)
    → option_map (λ v. value_view v.now) r ≡ last_item (items_view vs)
last_seen r vs e = copied value_view r ∙ ap (option_map value_view) e ∙ last_get vs
