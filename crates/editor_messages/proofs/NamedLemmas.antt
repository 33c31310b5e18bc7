-- Tokens of the answers about a name.
use Rattle.std.proofs.Common.{◌≡◌, ◌∙◌, ◌+◌, ◌<◌, ◌++◌, ◌∷◌, [], ℕ, Bool, List, ap, append-nil, append_assoc, flat_map, false, get_or, length, map, refl, sym, take, true}
use Rattle.std.proofs.lemmas.List.{map-append, take_more}
use Rattle.std.proofs.lemmas.List.Concat.{flat_map-append}
use Rattle.std.specs.Prelude.{Option, Some, None, codes}
use Rattle.json.specs.Json.{Json}
use Rattle.json.specs.Token.{Token, begin_array, begin_object, end_array, end_object, key, string}
use Rattle.json.specs.Tree.{items_tokens, json_tokens, members_tokens}
use Rattle.lint_forms.specs.JsonValues.{json_items}
use Rattle.text_places.specs.PlacedEdits.{in_range}
use Rattle.text_places.specs.declared.ranges.Range.{Range}
use Rattle.editor_messages.specs.Inner.Heads.{capabilities_head, capabilities_tail}
use Rattle.editor_messages.specs.Inner.Named.{changes_tokens, locations_tokens, ranges_tokens, renaming_tokens, versioned_tokens}
use Rattle.editor_messages.specs.Names.{DocumentRanges, edits_by_uri, locations_in, range_location, rename_json, renaming_edits, version_json, versioned_edits}
use Rattle.editor_messages.specs.Replies.{capabilities_by, edit_json, rename_ability}
use Rattle.editor_messages.proofs.EditTokenLemmas.{array_tokens}

-- the tokens of one more value, as it is seen
pub one_more_seen : {A B : Type 0} (tokens : B → List Token) (seen : A → B) (xs : List A) (n : ℕ) (x : A) → n < length xs
    → flat_map tokens (map seen (take n xs)) ++ tokens (seen (get_or xs n x)) ≡ flat_map tokens (map seen (take (n + 1) xs))
one_more_seen tokens seen xs n x within =
    sym
    (ap (λ l. flat_map tokens (map seen l)) (take_more xs n x within)
    ∙ ap (flat_map tokens) (map-append seen (take n xs) (get_or xs n x ∷ []))
    ∙ flat_map-append tokens (map seen (take n xs)) (seen (get_or xs n x) ∷ [])
    ∙ ap (λ l. flat_map tokens (map seen (take n xs)) ++ l) (append-nil (tokens (seen (get_or xs n x)))))

pub one_more_item : {A B : Type 0} (tokens : B → List Token) (seen : A → B) (xs : List A) (n : ℕ) (x : A) → x ≡ get_or xs n x → n < length xs
    → flat_map tokens (map seen (take n xs)) ++ tokens (seen x) ≡ flat_map tokens (map seen (take (n + 1) xs))
one_more_item tokens seen xs n x is within = ap (λ y. flat_map tokens (map seen (take n xs)) ++ tokens (seen y)) is ∙ one_more_seen tokens seen xs n x within

pub capabilities_tokens : (version encoding : List ℕ) (prepares : Bool) → (capabilities_head encoding ++ json_tokens (rename_ability prepares)) ++ capabilities_tail version ≡ json_tokens (capabilities_by version encoding prepares)
capabilities_tokens version encoding false = refl
capabilities_tokens version encoding true = refl

-- ---- places

-- values before others
before_items : (f : Range → Json) (ranges : List Range) (js : List Json) → items_tokens (json_items (map f ranges ++ js)) ≡ flat_map json_tokens (map f ranges) ++ items_tokens (json_items js)
before_items f [] js = refl
before_items f (range ∷ ranges) js =
    ap (λ l. json_tokens (f range) ++ l) (before_items f ranges js) ∙ sym (append_assoc (json_tokens (f range)) (flat_map json_tokens (map f ranges)) (items_tokens (json_items js)))

pub all_locations : (ds : List DocumentRanges) → locations_tokens ds ++ end_array ∷ [] ≡ items_tokens (json_items (locations_in ds))
all_locations [] = refl
all_locations (d ∷ ds) =
    append_assoc (ranges_tokens d.uri d.ranges) (locations_tokens ds) (end_array ∷ [])
    ∙ ap (λ l. ranges_tokens d.uri d.ranges ++ l) (all_locations ds)
    ∙ sym (before_items (range_location d.uri) d.ranges (locations_in ds))

-- ---- edits

pub all_renamings : (name : List ℕ) (ranges : List Range) → begin_array ∷ (renaming_tokens name ranges ++ end_array ∷ []) ≡ json_tokens (renaming_edits name ranges)
all_renamings name ranges = ap (λ l. begin_array ∷ l) (sym (array_tokens edit_json (map (λ range. in_range range name) ranges)))

-- a document with its version and its edits
pub one_versioned : (name : List ℕ) (d : DocumentRanges)
    → ((((begin_object ∷ key (codes "textDocument") ∷ begin_object ∷ key (codes "uri") ∷ string d.uri ∷ key (codes "version") ∷ []) ++ json_tokens (version_json d.version)) ++ (end_object ∷ key (codes "edits") ∷ [])) ++ json_tokens (renaming_edits name d.ranges)) ++ end_object ∷ []
    ≡ json_tokens (versioned_edits name d)
one_versioned name d = by d.version
  where
    by : (version : Option ℕ)
        → ((((begin_object ∷ key (codes "textDocument") ∷ begin_object ∷ key (codes "uri") ∷ string d.uri ∷ key (codes "version") ∷ []) ++ json_tokens (version_json version)) ++ (end_object ∷ key (codes "edits") ∷ [])) ++ json_tokens (renaming_edits name d.ranges)) ++ end_object ∷ []
        ≡ json_tokens (versioned_edits name (record { uri = d.uri; version = version; ranges = d.ranges }))
    by None = refl
    by (Some version) = refl

pub all_versioned : (name : List ℕ) (ds : List DocumentRanges)
    → ((begin_object ∷ key (codes "documentChanges") ∷ begin_array ∷ []) ++ versioned_tokens name ds) ++ (end_array ∷ end_object ∷ []) ≡ json_tokens (rename_json true name ds)
all_versioned name ds =
    ap (λ l. begin_object ∷ key (codes "documentChanges") ∷ begin_array ∷ l)
    (sym (append_assoc (versioned_tokens name ds) (end_array ∷ []) (end_object ∷ [])) ∙ ap (λ l. l ++ end_object ∷ []) (sym (array_tokens (versioned_edits name) ds)))

changes_end : (name : List ℕ) (ds : List DocumentRanges) → changes_tokens name ds ++ end_object ∷ [] ≡ members_tokens (edits_by_uri name ds)
changes_end name [] = refl
changes_end name (d ∷ ds) =
    ap (λ l. key d.uri ∷ l) (append_assoc (json_tokens (renaming_edits name d.ranges)) (changes_tokens name ds) (end_object ∷ []) ∙ ap (λ l. json_tokens (renaming_edits name d.ranges) ++ l) (changes_end name ds))

pub all_changes : (name : List ℕ) (ds : List DocumentRanges)
    → ((begin_object ∷ key (codes "changes") ∷ begin_object ∷ []) ++ changes_tokens name ds) ++ (end_object ∷ end_object ∷ []) ≡ json_tokens (rename_json false name ds)
all_changes name ds =
    ap (λ l. begin_object ∷ key (codes "changes") ∷ begin_object ∷ l)
    (sym (append_assoc (changes_tokens name ds) (end_object ∷ []) (end_object ∷ [])) ∙ ap (λ l. l ++ end_object ∷ []) (changes_end name ds))
