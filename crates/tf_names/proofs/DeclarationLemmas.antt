-- Declarations, item by item.
use Rattle.std.proofs.Common.{◌≡◌, ◌∙◌, ap, sym, refl, ℕ, suc, zero, ◌+◌, ◌<◌, true, false, cond, List, [], ◌∷◌, ◌++◌, append_assoc, map, drop, length, arith}
use Rattle.std.specs.Prelude.{Option, Some, None, slice_get}
use Rattle.std.proofs.lemmas.List.{append-nil}
use Rattle.hcl_grammar.specs.Numbered.{number_tokens}
use Rattle.hcl_grammar.specs.declared.item.Item.{Item}
use Rattle.hcl_grammar.proofs.NumberedLemmas.{drop_at}
use Rattle.hcl_tokens.specs.Lexemes.{Lexeme}
use Rattle.tf_facts.specs.Declarations.{Attribute, attribute, attributes_in, is_inside, with_attribute}
use Rattle.tf_facts.proofs.BodyLemmas.{attributes_here}
use Rattle.tf_names.specs.Names.{Local, Occurrence, Stretch, attribute_stretches, declaration_of, declared_by_item, declared_by_items, label_stretches, word_stretch}
use Rattle.tf_names.specs.Views.{occurrence_seen}
use Rattle.tf_names.specs.declared.occurrence.Occurrence.{Occurrence as OccurrenceOf}

pub labels_here : (ts : List Lexeme) (items : List Item) (n : ℕ) (i : Item) → slice_get items n ≡ Some i → label_stretches ts (drop n items) ≡ label_stretches ts (i ∷ drop (n + 1) items)
labels_here ts items n i e = ap (label_stretches ts) (drop_at items n i e)

-- ---- the attributes of `locals`

abbrev pub local_declarations : List Stretch → List Occurrence
local_declarations = map (λ n. declaration_of (Local n.text) n)

abbrev attribute_locals : List Lexeme → List Attribute → List Occurrence
attribute_locals ts attributes = local_declarations (map (λ a. word_stretch ts a.token) attributes)

-- the declarations that were found, together with the remaining ones, are those of the block
abbrev pub AreLocals : List Lexeme → List Item → ℕ → List OccurrenceOf → List OccurrenceOf → ℕ → Type 0
AreLocals ts items from old new n =
    map occurrence_seen new ++ local_declarations (attribute_stretches ts (drop n items)) ≡ map occurrence_seen old ++ local_declarations (attribute_stretches ts (drop from items))

module _ (ts : List Lexeme) (items : List Item) (from : ℕ) (old new : List OccurrenceOf) (n : ℕ) (i : Item) (e : slice_get items n ≡ Some i) where
  abbrev it : Option Attribute
  it = attribute (number_tokens ts) i

  abbrev more : List Attribute
  more = attributes_in (number_tokens ts) (drop (n + 1) items)

  pub locals_over : is_inside i ≡ false → AreLocals ts items from old new n → map occurrence_seen new ≡ map occurrence_seen old ++ local_declarations (attribute_stretches ts (drop from items))
  locals_over outside h =
      sym (append-nil (map occurrence_seen new))
      ∙ ap (λ attributes. map occurrence_seen new ++ attribute_locals ts attributes)
      (sym (attributes_here (number_tokens ts) items n i e ∙ ap (λ b. cond b (with_attribute it more) []) outside))
      ∙ h

  both : (o : Option Attribute) (attributes : List Attribute) → attribute_locals ts (with_attribute o attributes) ≡ attribute_locals ts (with_attribute o []) ++ attribute_locals ts attributes
  both None attributes = refl
  both (Some a) attributes = refl

  pub locals_more : (next : List OccurrenceOf) → is_inside i ≡ true → map occurrence_seen next ≡ map occurrence_seen new ++ local_declarations (map (λ a. word_stretch ts a.token) (with_attribute (attribute (number_tokens ts) i) []))
      → AreLocals ts items from old new n → AreLocals ts items from old next (n + 1)
  locals_more next within put h =
      ap (λ l. l ++ attribute_locals ts more) put
      ∙ append_assoc (map occurrence_seen new) (attribute_locals ts (with_attribute it [])) (attribute_locals ts more)
      ∙ ap (λ l. map occurrence_seen new ++ l)
      (sym (ap (attribute_locals ts) (attributes_here (number_tokens ts) items n i e ∙ ap (λ b. cond b (with_attribute it more) []) within) ∙ both it more))
      ∙ h

-- ---- all items

abbrev pub AreDeclared : List Lexeme → List Item → List OccurrenceOf → List OccurrenceOf → ℕ → Type 0
AreDeclared ts items old new n =
    map occurrence_seen new ++ declared_by_items ts (drop n items) ≡ map occurrence_seen old ++ declared_by_items ts items

there_is : (k : ℕ) (xs : List Item) → k < length xs → (i : Item) × (slice_get xs k ≡ Some i)
there_is k [] h = absurd (omega (arith, h))
there_is zero (x ∷ xs) h = (x, refl)
there_is (suc k) (x ∷ xs) h = there_is k xs (omega (arith, h))

pub declared_more : (ts : List Lexeme) (items : List Item) (old new next : List OccurrenceOf) (n : ℕ) → n < length items
    → ((i : Item) → slice_get items n ≡ Some i → map occurrence_seen next ≡ map occurrence_seen new ++ declared_by_item ts i (drop (n + 1) items)) → AreDeclared ts items old new n → AreDeclared ts items old next (n + 1)
declared_more ts items old new next n less put h =
    let i = there_is n items less in
    ap (λ l. l ++ declared_by_items ts (drop (n + 1) items)) (put i.0 i.1)
    ∙ append_assoc (map occurrence_seen new) (declared_by_item ts i.0 (drop (n + 1) items)) (declared_by_items ts (drop (n + 1) items))
    ∙ ap (λ is. map occurrence_seen new ++ declared_by_items ts is) (sym (drop_at items n i.0 i.1))
    ∙ h
