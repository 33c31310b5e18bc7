-- The names of the linter's facts.
use Rattle.std.proofs.Common.{◌≡◌, ◌∙◌, ap, sym, refl, ℕ, Bool, true, false, cond, not, List, [], ◌∷◌, ◌++◌, map, drop, length, arith, subst}
use Rattle.std.specs.Prelude.{◌==◌, Option, Some, None, codes, flat_map}
use Rattle.std.specs.Option.{option_map, option_and_then}
use Rattle.std.specs.Str.{bytes_eq}
use Rattle.std.proofs.lemmas.Bool.{ne_eqb}
use Rattle.std.proofs.lemmas.Grind.{flat_map-append}
use Rattle.std.proofs.lemmas.List.{append-nil, map-append}
use Rattle.std.proofs.lemmas.Slice.Eq.{bytes_eq-Decides}
use Rattle.hcl_grammar.specs.Items.{is_closed, outline}
use Rattle.hcl_grammar.specs.Labels.{label_text, text_of}
use Rattle.hcl_grammar.specs.Numbered.{Numbered, number_tokens, significant}
use Rattle.hcl_grammar.specs.declared.item.Item.{Item}
use Rattle.hcl_grammar.specs.declared.item.Item.TheVariants as item
use Rattle.hcl_tokens.specs.Kinds.{is}
use Rattle.hcl_tokens.specs.Lexemes.{Lexeme}
use Rattle.hcl_tokens.specs.declared.token.Kind.TheVariants as kind
use Rattle.tf_facts.specs.Declarations.{Attribute, Declaration, attributes_in, by_declarer, declarations, declarer, is_empty, labels_in, of_block, of_items, of_local, with_attribute}
use Rattle.tf_facts.specs.References.{VariableSpan, by_name, data_of, local_reference, name_after, reference_at, reference_of, references, references_from, unless_self_reference, variable_blocks, variable_reference}
use Rattle.tf_names.specs.Agreement.{name_of_declaration, reference_text}
use Rattle.tf_names.specs.Names.{Name, NameReference, Occurrence, Stretch, Variable, Local, Data, Module, attribute_stretches, declaration_of, declared_by_items, declared_in_block, label_stretches, listed_reference, name_declarations, name_references, refer, refers_at, refers_by, refers_from, word_stretch}

-- ---- references

module _ (own : List VariableSpan) where
  abbrev texts : List NameReference → List (List ℕ)
  texts rs = flat_map (λ r. unless_self_reference own r.word (reference_text r.name)) rs

  texts_by : (w n : Numbered) (rest : List Numbered) → texts (listed_reference (refers_by w n rest)) ≡ unless_self_reference own w.number (reference_of w.text n.text rest)
  texts_by w n rest = by (bytes_eq w.text (codes "var")) (bytes_eq w.text (codes "local")) (bytes_eq w.text (codes "data")) (bytes_eq w.text (codes "module")) (name_after rest)
    where
      by : (a b c d : Bool) (o : Option Numbered)
          → texts (listed_reference (cond a (Some (refer w n (Variable n.text))) (cond b (Some (refer w n (Local n.text))) (cond c (option_map (λ m. refer w m (Data n.text m.text)) o) (cond d (Some (refer w n (Module n.text))) None)))))
          ≡ unless_self_reference own w.number (cond a (Some (variable_reference n.text)) (cond b (Some (local_reference n.text)) (cond c (data_of n.text o) None)))
      by true b c d o = append-nil _
      by false true c d o = append-nil _
      by false false true d None = refl
      by false false true d (Some m) = append-nil _
      by false false false true o = refl
      by false false false false o = refl

  texts_at : (w : Numbered) (ts : List Numbered) → texts (listed_reference (refers_at (w ∷ ts))) ≡ unless_self_reference own w.number (reference_at (w ∷ ts))
  texts_at w ts = by (is kind.Ident w.kind) (name_after ts)
    where
      by : (b : Bool) (o : Option Numbered) → texts (listed_reference (cond b (option_and_then (λ n. refers_by w n (drop 2 ts)) o) None)) ≡ unless_self_reference own w.number (cond b (by_name w.text o (drop 2 ts)) None)
      by true None = refl
      by true (Some n) = texts_by w n (drop 2 ts)
      by false o = refl

  texts_from : (after_dot : Bool) (ts : List Numbered) → texts (refers_from after_dot ts) ≡ references_from own after_dot ts
  texts_from after_dot [] = refl
  texts_from true (t ∷ ts) = texts_from (is kind.Dot t.kind) ts
  texts_from false (t ∷ ts) =
      flat_map-append (λ r. unless_self_reference own r.word (reference_text r.name)) (listed_reference (refers_at (t ∷ ts))) (refers_from (is kind.Dot t.kind) ts)
      ∙ ap (λ l. l ++ texts (refers_from (is kind.Dot t.kind) ts)) (texts_at t ts)
      ∙ ap (λ l. unless_self_reference own t.number (reference_at (t ∷ ts)) ++ l) (texts_from (is kind.Dot t.kind) ts)

-- THE LAW
pub references_are_the_linters : (ts : List Numbered) → flat_map (λ r. unless_self_reference (variable_blocks ts) r.word (reference_text r.name)) (name_references ts) ≡ references ts
references_are_the_linters ts = texts_from (variable_blocks ts) false (significant ts)

-- ---- declarations

abbrev names_in : List Occurrence → List Name
names_in os = map (λ o. o.name) os

abbrev names_by : List (Declaration ℕ) → List Name
names_by ds = flat_map name_of_declaration ds

label_texts : (tokens : List Lexeme) (items : List Item) → map (λ s. s.text) (label_stretches tokens items) ≡ labels_in (number_tokens tokens) items
label_texts tokens [] = refl
label_texts tokens (item.Attribute level name first end ∷ items) = refl
label_texts tokens (item.Block level token end ∷ items) = refl
label_texts tokens (item.Label l ∷ items) = ap (λ ls. label_text (number_tokens tokens) l ∷ ls) (label_texts tokens items)

abbrev local_names : List Lexeme → List Attribute → List Name
local_names tokens attributes = names_in (map (λ n. declaration_of (Local n.text) n) (map (λ a. word_stretch tokens a.token) attributes))

locals_named : (tokens : List Lexeme) (items : List Item) → local_names tokens (attributes_in (number_tokens tokens) items) ≡ names_by (map of_local (attributes_in (number_tokens tokens) items))
locals_named tokens [] = refl
locals_named tokens (item.Attribute level name first end ∷ items) = by (is_closed level) (level == 1) (locals_named tokens items)
  where
    by : (a b : Bool) → local_names tokens (attributes_in (number_tokens tokens) items) ≡ names_by (map of_local (attributes_in (number_tokens tokens) items))
        → local_names tokens (cond (not a) (with_attribute (cond b (Some (record { name = text_of (number_tokens tokens) name; token = name; first = first; end = end })) None) (attributes_in (number_tokens tokens) items)) [])
        ≡ names_by (map of_local (cond (not a) (with_attribute (cond b (Some (record { name = text_of (number_tokens tokens) name; token = name; first = first; end = end })) None) (attributes_in (number_tokens tokens) items)) []))
    by true b more = refl
    by false true more = ap (λ ns. Local (text_of (number_tokens tokens) name) ∷ ns) more
    by false false more = more
locals_named tokens (item.Block level token end ∷ items) = by (is_closed level) (locals_named tokens items)
  where
    by : (a : Bool) → local_names tokens (attributes_in (number_tokens tokens) items) ≡ names_by (map of_local (attributes_in (number_tokens tokens) items)) → local_names tokens (cond (not a) (attributes_in (number_tokens tokens) items) []) ≡ names_by (map of_local (cond (not a) (attributes_in (number_tokens tokens) items) []))
    by true more = refl
    by false more = more
locals_named tokens (item.Label l ∷ items) = locals_named tokens items

-- a word is one of those that declare, or none of them
module _ (P : List ℕ → Type 0) (word : List ℕ) where
  if_same : (other : List ℕ) → P other → (bytes_eq word other ≡ false → P word) → P word
  if_same other same differs = by (bytes_eq word other) refl
    where
      by : (b : Bool) → bytes_eq word other ≡ b → P word
      by true e = subst P (sym ((bytes_eq-Decides word other).0 e)) same
      by false e = differs e

  by_word : P (codes "locals") → P (codes "variable") → P (codes "output") → P (codes "module") → P (codes "resource") → P (codes "data")
      → (bytes_eq word (codes "locals") ≡ false → bytes_eq word (codes "variable") ≡ false → bytes_eq word (codes "output") ≡ false → bytes_eq word (codes "module") ≡ false → bytes_eq word (codes "resource") ≡ false → bytes_eq word (codes "data") ≡ false → P word) → P word
  by_word a b c d e f other =
      if_same (codes "locals") a (λ na. if_same (codes "variable") b (λ nb. if_same (codes "output") c (λ nc. if_same (codes "module") d (λ nd. if_same (codes "resource") e (λ ne. if_same (codes "data") f (λ nf.
      other na nb nc nd ne nf))))))

module _ (tokens : List Lexeme) (token : ℕ) (items : List Item) where
  abbrev ts : List Numbered
  ts = number_tokens tokens

  -- the linter's declarations of a block with this word as its kind
  abbrev by_linter : List (List ℕ) → List ℕ → List (Declaration ℕ)
  by_linter labels word =
      cond (bytes_eq word (codes "locals")) (cond (is_empty labels) (map of_local (attributes_in ts items)) []) (by_declarer ts token labels (attributes_in ts items) (declarer word))

  abbrev Agrees : List Stretch → List ℕ → Type 0
  Agrees ls word = names_in (declared_in_block word ls (attribute_stretches tokens items)) ≡ names_by (by_linter (map (λ s. s.text) ls) word)

  agrees_other : (ls : List Stretch) (word : List ℕ) → bytes_eq word (codes "locals") ≡ false → bytes_eq word (codes "variable") ≡ false → bytes_eq word (codes "output") ≡ false → bytes_eq word (codes "module") ≡ false
      → bytes_eq word (codes "resource") ≡ false → bytes_eq word (codes "data") ≡ false → Agrees ls word
  agrees_other [] word a b c d e f = simp (a, b, c, d, e, f)
  agrees_other (n ∷ []) word a b c d e f = simp (a, b, c, d, e, f)
  agrees_other (t ∷ n ∷ []) word a b c d e f = simp (a, b, c, d, e, f)
  agrees_other (t ∷ n ∷ m ∷ ls) word a b c d e f = simp (a, b, c, d, e, f)

  agrees : (ls : List Stretch) (word : List ℕ) → Agrees ls word
  agrees [] word = by_word (Agrees []) word (locals_named tokens items) refl refl refl refl refl (agrees_other [] word)
  agrees (n ∷ []) word = by_word (Agrees (n ∷ [])) word refl refl refl refl refl refl (agrees_other (n ∷ []) word)
  agrees (t ∷ n ∷ []) word = by_word (Agrees (t ∷ n ∷ [])) word refl refl refl refl refl refl (agrees_other (t ∷ n ∷ []) word)
  agrees (t ∷ n ∷ m ∷ ls) word =
      let one : (length (map (λ s. s.text) (t ∷ n ∷ m ∷ ls)) == 1) ≡ false = ne_eqb (length (map (λ s. s.text) (t ∷ n ∷ m ∷ ls))) 1 (λ e. omega (arith, e)) in
      let two : (length (map (λ s. s.text) (t ∷ n ∷ m ∷ ls)) == 2) ≡ false = ne_eqb (length (map (λ s. s.text) (t ∷ n ∷ m ∷ ls))) 2 (λ e. omega (arith, e)) in
      by_word (Agrees (t ∷ n ∷ m ∷ ls)) word refl (simp one) (simp one) (simp one) (simp two) (simp two) (agrees_other (t ∷ n ∷ m ∷ ls) word)

  block_agrees : names_in (declared_in_block (text_of ts token) (label_stretches tokens items) (attribute_stretches tokens items)) ≡ names_by (of_block ts token (labels_in ts items) (attributes_in ts items))
  block_agrees =
      agrees (label_stretches tokens items) (text_of ts token)
      ∙ ap (λ labels. names_by (by_linter labels (text_of ts token))) (label_texts tokens items)

items_agree : (tokens : List Lexeme) (items : List Item) → names_in (declared_by_items tokens items) ≡ names_by (of_items (number_tokens tokens) items)
items_agree tokens [] = refl
items_agree tokens (item.Attribute level name first end ∷ items) = items_agree tokens items
items_agree tokens (item.Label l ∷ items) = items_agree tokens items
items_agree tokens (item.Block level token end ∷ items) = by (is_closed level) (items_agree tokens items)
  where
    by : (b : Bool) → names_in (declared_by_items tokens items) ≡ names_by (of_items (number_tokens tokens) items) → names_in (cond b (declared_in_block (text_of (number_tokens tokens) token) (label_stretches tokens items) (attribute_stretches tokens items)) [] ++ declared_by_items tokens items)
        ≡ names_by (cond b (of_block (number_tokens tokens) token (labels_in (number_tokens tokens) items) (attributes_in (number_tokens tokens) items)) [] ++ of_items (number_tokens tokens) items)
    by true more =
        map-append (λ o. o.name) (declared_in_block (text_of (number_tokens tokens) token) (label_stretches tokens items) (attribute_stretches tokens items)) (declared_by_items tokens items)
        ∙ ap (λ l. l ++ names_in (declared_by_items tokens items)) (block_agrees tokens token items)
        ∙ ap (λ l. names_by (of_block (number_tokens tokens) token (labels_in (number_tokens tokens) items) (attributes_in (number_tokens tokens) items)) ++ l) more
        ∙ sym (flat_map-append name_of_declaration (of_block (number_tokens tokens) token (labels_in (number_tokens tokens) items) (attributes_in (number_tokens tokens) items)) (of_items (number_tokens tokens) items))
    by false more = more

-- THE LAW
pub declarations_are_the_linters : (tokens : List Lexeme) → map (λ o. o.name) (name_declarations tokens) ≡ flat_map name_of_declaration (declarations (number_tokens tokens))
declarations_are_the_linters tokens = items_agree tokens (outline tokens)
