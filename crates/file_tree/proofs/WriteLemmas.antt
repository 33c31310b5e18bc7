-- Writing a name as it is shown, text by text.
use Rattle.std.proofs.Common.{◌≡◌, ◌∙◌, ◌<◌, ◌+◌, ◌++◌, ◌∷◌, [], ℕ, Bool, true, List, Option, ap, drop, get_or, length, refl, subst, sym}
use Rattle.std.specs.Prelude.{flat_map, if◌then◌else◌}
use Rattle.std.specs.Io.KnownBytes.{Appends}
use Rattle.std.specs.List.{list_any}
use Rattle.std.proofs.lemmas.List.{get_or_default}
use Rattle.command_line.specs.Rows.{TookBy}
use Rattle.command_line.proofs.ListCutLemmas.{from_here}
use Rattle.command_line.proofs.WriterLemmas.{goes_on, took_front}
use Rattle.file_tree.specs.Files.{Name}
use Rattle.file_tree.specs.Quotes.{is_odd, shown_name, shown_byte}

-- a byte, and those after it
pub byte_here : (name : Name) (i d b : ℕ) → i < length name → b ≡ get_or name i d → flat_map shown_byte (drop i name) ≡ shown_byte b ++ flat_map shown_byte (drop (i + 1) name)
byte_here name i d b lt is =
    ap (λ l. flat_map shown_byte l) (from_here name i (get_or name i d) lt (get_or_default name i d (get_or name i d) lt)) ∙ ap (λ x. shown_byte x ++ flat_map shown_byte (drop (i + 1) name)) (sym is)

-- a text was taken, and then another one, or a part of another
then_took : (a b c : Option (List ℕ)) (f : Bool) (s t : List ℕ) → Appends a b s → TookBy f b c t → TookBy f a c (s ++ t)
then_took a b c f s t first rest = goes_on a a b s t (s ++ t) (s ++ t) refl first (λ after g h. h) c f rest

-- the bytes to write for a quoted name
pub quoted_odd : (name : Name) → list_any is_odd name ≡ true → shown_name name ≡ 34 ∷ (flat_map shown_byte name ++ 34 ∷ [])
quoted_odd name e = ap (λ (v : Bool). if v then 34 ∷ (flat_map shown_byte name ++ 34 ∷ []) else name) e

-- the quote and the bytes, with a failure within these
pub cut_in : (a b c : Option (List ℕ)) (f : Bool) (name : Name) → list_any is_odd name ≡ true → Appends a b (34 ∷ []) → f ≡ true → TookBy f b c (flat_map shown_byte name) → TookBy f a c (shown_name name)
cut_in a b c f name odd first failed then' =
    subst (TookBy f a c) (sym (quoted_odd name odd)) (then_took a b c f (34 ∷ []) (flat_map shown_byte name ++ 34 ∷ []) first (took_front b c f (flat_map shown_byte name) (34 ∷ []) failed then'))

-- the quote and the bytes, and then the last quote
pub took_quoted : (a b c d : Option (List ℕ)) (f : Bool) (name : Name) → list_any is_odd name ≡ true → Appends a b (34 ∷ []) → Appends b c (flat_map shown_byte name) → TookBy f c d (34 ∷ [])
    → TookBy f a d (shown_name name)
took_quoted a b c d f name odd first then' last =
    subst (TookBy f a d) (sym (quoted_odd name odd))
    (then_took a b d f (34 ∷ []) (flat_map shown_byte name ++ 34 ∷ []) first (then_took b c d f (flat_map shown_byte name) (34 ∷ []) then' last))
