-- The tokens of edits that are written in turn, their places found by one walk.
use Rattle.std.proofs.Common.{◌≡◌, ◌∙◌, ◌+◌, ◌<◌, ◌≤◌, ◌++◌, ◌∷◌, [], ℕ, List, ap, append-nil, append_assoc, arith, drop, flat_map, get_or, length, map, refl, subst, sym, take}
use Rattle.std.proofs.lemmas.List.{drop_more, map-append, take_more}
use Rattle.std.proofs.lemmas.List.Concat.{flat_map-append}
use Rattle.json.specs.Json.{Json}
use Rattle.json.specs.Token.{end_array}
use Rattle.json.specs.Tree.{items_tokens, json_tokens}
use Rattle.json.specs.Written.{Written}
use Rattle.lint_forms.proofs.AddsLemmas.{Added, added_then}
use Rattle.lint_forms.specs.JsonValues.{json_items}
use Rattle.text_places.specs.Edits.{Edit, EditsAscend, edit_of}
use Rattle.text_places.specs.PlacedEdits.{PlacedEdit, placed_edits, placed_edit}
use Rattle.text_places.specs.declared.edits.TextEdit.{TextEdit}
use Rattle.text_places.specs.Places.{walk_to}
use Rattle.text_places.specs.declared.place.Units.{Units}
use Rattle.text_places.specs.declared.place.Walk.{Walk}
use Rattle.editor_messages.specs.Inner.Heads.{edits_tokens}
use Rattle.editor_messages.specs.Replies.{edit_json}

-- some of the edits are written, and the walk has not passed the next
pub record AreWritten (units : Units) (text : List ℕ) (edits : List TextEdit) (n : ℕ) (walk : Walk) (old new : Written) : Type 0 where
  pub added : Added old new (edits_tokens (placed_edits units text (map edit_of (take n edits))))
  pub walked : walk ≡ walk_to units text walk.offset
  pub ascend : EditsAscend walk.offset (length text) (map edit_of (drop n edits))

pub ascend_within : (at end : ℕ) (es : List Edit) → EditsAscend at end es → at ≤ end
ascend_within at end [] a = a
ascend_within at end (e ∷ es) a = omega (arith, a.0, a.1, ascend_within e.to end es a.2)

pub next_ascends : (at end n : ℕ) (edits : List TextEdit) (d : TextEdit) → n < length edits → EditsAscend at end (map edit_of (drop n edits))
    → EditsAscend at end (edit_of (get_or edits n d) ∷ map edit_of (drop (n + 1) edits))
next_ascends at end n edits d within a = subst (λ es. EditsAscend at end (map edit_of es)) (drop_more edits n d within) a

tokens_more : (units : Units) (text : List ℕ) (edits : List TextEdit) (n : ℕ) (d : TextEdit) → n < length edits
    → edits_tokens (placed_edits units text (map edit_of (take (n + 1) edits)))
    ≡ edits_tokens (placed_edits units text (map edit_of (take n edits))) ++ json_tokens (edit_json (placed_edit units text (edit_of (get_or edits n d))))
tokens_more units text edits n d within =
    let e = get_or edits n d in
    ap (λ es. edits_tokens (placed_edits units text (map edit_of es))) (take_more edits n d within)
    ∙ ap (λ es. edits_tokens (placed_edits units text es)) (map-append edit_of (take n edits) (e ∷ []))
    ∙ ap edits_tokens (map-append (placed_edit units text) (map edit_of (take n edits)) (edit_of e ∷ []))
    ∙ flat_map-append (λ edit. json_tokens (edit_json edit)) (placed_edits units text (map edit_of (take n edits))) (placed_edit units text (edit_of e) ∷ [])
    ∙ ap (λ l. edits_tokens (placed_edits units text (map edit_of (take n edits))) ++ l) (append-nil (json_tokens (edit_json (placed_edit units text (edit_of e)))))

pub one_more_written : (units : Units) (text : List ℕ) (edits : List TextEdit) (n : ℕ) (d : TextEdit) (walk further : Walk) (p : PlacedEdit) (w0 w1 w2 : Written) → n < length edits
    → AreWritten units text edits n walk w0 w1 → further ≡ walk_to units text (get_or edits n d).to → further.offset ≡ (get_or edits n d).to
    → p ≡ placed_edit units text (edit_of (get_or edits n d)) → Added w1 w2 (json_tokens (edit_json p)) → AreWritten units text edits (n + 1) further w0 w2
one_more_written units text edits n d walk further p w0 w1 w2 within before goes at is added =
    let a = next_ascends walk.offset (length text) n edits d within before.ascend in
    record {
      added =
          subst (Added w0 w2) (ap (λ q. edits_tokens (placed_edits units text (map edit_of (take n edits))) ++ json_tokens (edit_json q)) is ∙ sym (tokens_more units text edits n d within))
          (added_then w0 w1 w2 _ _ before.added added);
      walked = goes ∙ ap (walk_to units text) (sym at);
      ascend = subst (λ o. EditsAscend o (length text) (map edit_of (drop (n + 1) edits))) (sym at) a.2;
    }

pub array_tokens : {A : Type 0} (f : A → Json) (xs : List A) → items_tokens (json_items (map f xs)) ≡ flat_map (λ x. json_tokens (f x)) xs ++ end_array ∷ []
array_tokens f [] = refl
array_tokens f (x ∷ xs) = ap (λ l. json_tokens (f x) ++ l) (array_tokens f xs) ∙ sym (append_assoc (json_tokens (f x)) (flat_map (λ y. json_tokens (f y)) xs) (end_array ∷ []))
