-- The blocks of variables, item by item.
use Rattle.std.proofs.Common.{◌≡◌, ◌∙◌, ap, sym, refl, ℕ, suc, zero, ◌+◌, ◌<◌, ◌≤◌, Bool, true, false, true≢false, cond, not, List, [], ◌∷◌, ◌++◌, append_assoc, map, drop, length, arith}
use Rattle.std.specs.Prelude.{◌==◌, Option, Some, None, codes, filter, slice_get}
use Rattle.std.specs.Str.{bytes_eq}
use Rattle.std.proofs.lemmas.List.{append-nil, drop_all, map-append}
use Rattle.std.proofs.lemmas.Slice.Eq.{bytes_eq-Decides}
use Rattle.hcl_grammar.specs.Numbered.{Numbered}
use Rattle.hcl_grammar.specs.Items.{is_closed}
use Rattle.hcl_grammar.specs.Labels.{text_of}
use Rattle.hcl_grammar.specs.declared.item.Item.{Item}
use Rattle.hcl_grammar.specs.declared.item.Item.TheVariants as item
use Rattle.hcl_grammar.proofs.NumberedLemmas.{drop_at}
use Rattle.tf_facts.specs.Declarations.{is_kind, Attribute, Declaration, Declarer, attributes_in, by_declarer, declarer, has, is_empty, labels_in, of_block, of_local}
use Rattle.tf_facts.specs.References.{VariableSpan, last_of, variable_blocks_of_item, variable_blocks_of_items}
use Rattle.tf_facts.specs.Inner.Blocks.{block_view}
use Rattle.tf_facts.specs.declared.declaration_kind.DeclarationKind.TheVariants as declares
use Rattle.tf_facts.specs.declared.variable_block.VariableBlock.{VariableBlock}
use Rattle.tf_facts.proofs.OwnLemmas.{no_locals}

abbrev variables : List (Declaration ℕ) → List (Declaration ℕ)
variables ds = filter (λ d. is_kind declares.Variable d.kind) ds

-- `locals` declares no variable
variables_in : (ts : List Numbered) (token : ℕ) (texts : List (List ℕ)) (attributes : List Attribute)
    → variables (by_declarer ts token texts attributes (declarer (text_of ts token))) ≡ variables (of_block ts token texts attributes)
variables_in ts token texts attributes = by (bytes_eq (text_of ts token) (codes "locals")) refl
  where
    none : (b : Bool) → variables (cond b (map of_local attributes) []) ≡ []
    none true = no_locals attributes
    none false = refl

    by : (b : Bool) → bytes_eq (text_of ts token) (codes "locals") ≡ b
        → variables (by_declarer ts token texts attributes (declarer (text_of ts token)))
        ≡ variables (cond b (cond (is_empty texts) (map of_local attributes) []) (by_declarer ts token texts attributes (declarer (text_of ts token))))
    by true e = ap (λ w. variables (by_declarer ts token texts attributes (declarer w))) ((bytes_eq-Decides (text_of ts token) (codes "locals")).0 e) ∙ sym (none (is_empty texts))
    by false e = refl

-- ---- which blocks declare a variable

module _ (ts : List Numbered) (token : ℕ) (texts : List (List ℕ)) (attributes : List Attribute) where
  abbrev other_declarer : List ℕ → Option Declarer
  other_declarer word =
      cond (bytes_eq word (codes "output")) (Some (record { kind = declares.Output; labels = 1 })) (cond (bytes_eq word (codes "module")) (Some (record { kind = declares.Module; labels = 1 }))
      (cond (bytes_eq word (codes "resource")) (Some (record { kind = declares.Resource; labels = 2 })) (cond (bytes_eq word (codes "data")) (Some (record { kind = declares.Data; labels = 2 })) None)))

  -- the declaration of a block of this kind with one label
  abbrev pub a_variable : Declaration ℕ
  a_variable = record {
    kind = declares.Variable;
    names = texts;
    at = token;
    described = has (codes "description") attributes;
    typed = has (codes "type") attributes;
    versioned = has (codes "version") attributes;
    source = None;
  }

  pub one_variable : (word : List ℕ) → bytes_eq word (codes "variable") ≡ true → variables (by_declarer ts token texts attributes (declarer word)) ≡ variables (cond (length texts == 1) (a_variable ∷ []) [])
  one_variable word same = ap (λ b. variables (by_declarer ts token texts attributes (cond b (Some (record { kind = declares.Variable; labels = 1 })) (other_declarer word)))) same

  pub no_variable : (word : List ℕ) → bytes_eq word (codes "variable") ≡ false → variables (by_declarer ts token texts attributes (declarer word)) ≡ []
  no_variable word other =
      ap (λ b. variables (by_declarer ts token texts attributes (cond b (Some (record { kind = declares.Variable; labels = 1 })) (other_declarer word)))) other
      ∙ by (bytes_eq word (codes "output")) (bytes_eq word (codes "module")) (bytes_eq word (codes "resource")) (bytes_eq word (codes "data"))
    where
      one : (b : Bool) (d : Declaration ℕ) → is_kind declares.Variable d.kind ≡ false → variables (cond b (d ∷ []) []) ≡ []
      one true d e = ap (λ v. cond v (d ∷ []) []) e
      one false d e = refl

      by : (a b c d : Bool)
          → variables (by_declarer ts token texts attributes
          (cond a (Some (record { kind = declares.Output; labels = 1 })) (cond b (Some (record { kind = declares.Module; labels = 1 }))
          (cond c (Some (record { kind = declares.Resource; labels = 2 })) (cond d (Some (record { kind = declares.Data; labels = 2 })) None))))) ≡ []
      by true b c d = one (length texts == 1) _ refl
      by false true c d = one (length texts == 1) _ refl
      by false false true d = one (length texts == 2) _ refl
      by false false false true = one (length texts == 2) _ refl
      by false false false false = refl

pub differs : (b n : Bool) → n ≡ not b → n ≡ true → b ≡ false
differs true n e h = absurd (true≢false (sym h ∙ e))
differs false n e h = refl

pub is_same : (b n : Bool) → n ≡ not b → n ≡ false → b ≡ true
is_same true n e h = refl
is_same false n e h = absurd (true≢false (sym e ∙ h))

pub closed_at : (level : ℕ) → level ≤ 0 → is_closed level ≡ true
closed_at zero h = refl
closed_at (suc level) h = absurd (omega (arith, h))

abbrev own_by : List ℕ → ℕ → ℕ → VariableSpan
own_by name first end = record { name = name; first = first; end = end }

module _ (ts : List Numbered) (items : List Item) (n level token end : ℕ) (e : slice_get items n ≡ Some (item.Block level token end)) (x : Item) (k : slice_get items n ≡ Some x) where
  abbrev own_as : Declaration ℕ → VariableSpan
  own_as d = record { name = last_of d.names; first = token; end = end }

  abbrev rest : List Item
  rest = drop (n + 1) items

  abbrev inside : List (Declaration ℕ)
  inside = of_block ts token (labels_in ts rest) (attributes_in ts rest)

  abbrev all_by : List (Declaration ℕ)
  all_by = by_declarer ts token (labels_in ts (drop (n + 1) items)) (attributes_in ts (drop (n + 1) items)) (declarer (text_of ts token))

  same : item.Block level token end ≡ x
  same = some_same (sym e ∙ k)
    where
      some_same : Some (item.Block level token end) ≡ Some x → item.Block level token end ≡ x
      some_same h = cc

  at_level : (b : Bool) → is_closed level ≡ b → map own_as (variables (cond b inside [])) ≡ variable_blocks_of_item ts x rest
  at_level b is = ap (λ c. map own_as (variables (cond c inside []))) (sym is) ∙ ap (λ i. variable_blocks_of_item ts i rest) same

  at_top : is_closed level ≡ true → (ds : List (Declaration ℕ)) → ds ≡ all_by → map own_as (variables ds) ≡ variable_blocks_of_item ts x rest
  at_top top ds is = ap (λ es. map own_as (variables es)) is ∙ ap (map own_as) (variables_in ts token (labels_in ts rest) (attributes_in ts rest)) ∙ at_level true top

  pub owner_none : is_closed level ≡ true → variables all_by ≡ [] → [] ≡ variable_blocks_of_item ts x (drop (n + 1) items)
  owner_none top none = sym (ap (map own_as) none) ∙ at_top top all_by refl

  -- a block of another kind
  pub owner_other : is_closed level ≡ true → bytes_eq (text_of ts token) (codes "variable") ≡ false → [] ≡ variable_blocks_of_item ts x (drop (n + 1) items)
  owner_other top other = owner_none top (no_variable ts token (labels_in ts rest) (attributes_in ts rest) (text_of ts token) other)

  -- a block of this kind with several labels, or none
  pub owner_unfit : is_closed level ≡ true → bytes_eq (text_of ts token) (codes "variable") ≡ true → (length (labels_in ts (drop (n + 1) items)) == 1) ≡ false → [] ≡ variable_blocks_of_item ts x (drop (n + 1) items)
  owner_unfit top same unfit =
      owner_none top (one_variable ts token (labels_in ts rest) (attributes_in ts rest) (text_of ts token) same
      ∙ ap (λ b. variables (cond b (a_variable ts token (labels_in ts rest) (attributes_in ts rest) ∷ []) [])) unfit)

  pub owner_one : is_closed level ≡ true → bytes_eq (text_of ts token) (codes "variable") ≡ true → (name : List ℕ) → labels_in ts (drop (n + 1) items) ≡ name ∷ [] → (o : VariableBlock) → o.name.now ≡ name → o.first ≡ token → o.end ≡ end
      → block_view o ∷ [] ≡ variable_blocks_of_item ts x (drop (n + 1) items)
  owner_one top same name label o is first last =
      ap (λ v. own_by v o.first o.end ∷ []) is
      ∙ ap (λ v. own_by name v o.end ∷ []) first
      ∙ ap (λ v. own_by name token v ∷ []) last
      ∙ ap (λ texts. map own_as (variables (cond (length texts == 1) (a_variable ts token texts (attributes_in ts rest) ∷ []) []))) (sym label)
      ∙ ap (map own_as) (sym (one_variable ts token (labels_in ts rest) (attributes_in ts rest) (text_of ts token) same))
      ∙ at_top top all_by refl

-- ---- all items

abbrev pub AreOwners : List Numbered → List Item → List VariableBlock → ℕ → Type 0
AreOwners ts items found n = map block_view found ++ variable_blocks_of_items ts (drop n items) ≡ variable_blocks_of_items ts items

module _ (ts : List Numbered) (items : List Item) (found : List VariableBlock) (n : ℕ) where
  pub owners_end : length items ≤ n → AreOwners ts items found n → map block_view found ≡ variable_blocks_of_items ts items
  owners_end past h = sym (append-nil (map block_view found)) ∙ ap (λ is. map block_view found ++ variable_blocks_of_items ts is) (sym (drop_all n items past)) ∙ h

  there_is : (k : ℕ) (xs : List Item) → k < length xs → (i : Item) × (slice_get xs k ≡ Some i)
  there_is k [] h = absurd (omega (arith, h))
  there_is zero (x ∷ xs) h = (x, refl)
  there_is (suc k) (x ∷ xs) h = there_is k xs (omega (arith, h))

  step : (own : List VariableSpan) → n < length items → ((i : Item) → slice_get items n ≡ Some i → own ≡ variable_blocks_of_item ts i (drop (n + 1) items)) → own ++ variable_blocks_of_items ts (drop (n + 1) items) ≡ variable_blocks_of_items ts (drop n items)
  step own less is =
      let i = there_is n items less in
      ap (λ r. r ++ variable_blocks_of_items ts (drop (n + 1) items)) (is i.0 i.1) ∙ ap (variable_blocks_of_items ts) (sym (drop_at items n i.0 i.1))

  pub owners_past : n < length items → ((i : Item) → slice_get items n ≡ Some i → [] ≡ variable_blocks_of_item ts i (drop (n + 1) items)) → AreOwners ts items found n → AreOwners ts items found (n + 1)
  owners_past less none h = ap (λ r. map block_view found ++ r) (step [] less none) ∙ h

  pub owners_more : (next : List VariableBlock) (o : VariableBlock) → n < length items → next ≡ found ++ o ∷ [] → ((i : Item) → slice_get items n ≡ Some i → block_view o ∷ [] ≡ variable_blocks_of_item ts i (drop (n + 1) items))
      → AreOwners ts items found n → AreOwners ts items next (n + 1)
  owners_more next o less pushed one h =
      ap (λ r. map block_view r ++ variable_blocks_of_items ts (drop (n + 1) items)) pushed
      ∙ ap (λ r. r ++ variable_blocks_of_items ts (drop (n + 1) items)) (map-append block_view found (o ∷ []))
      ∙ append_assoc (map block_view found) (block_view o ∷ []) (variable_blocks_of_items ts (drop (n + 1) items))
      ∙ ap (λ r. map block_view found ++ r) (step (block_view o ∷ []) less one)
      ∙ h
