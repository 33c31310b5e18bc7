-- The declarations of blocks, part by part.
use Rattle.std.proofs.Common.{◌≡◌, ◌∙◌, ap, sym, refl, ℕ, suc, zero, ◌+◌, ◌<◌, ◌≤◌, Bool, true, false, cond, not, List, [], ◌∷◌, ◌++◌, append_assoc, map, drop, length, arith}
use Rattle.std.specs.Prelude.{◌==◌, Option, Some, None, IfSome, codes, find, slice_get}
use Rattle.std.specs.Option.{option_map}
use Rattle.std.specs.Str.{bytes_eq}
use Rattle.std.proofs.lemmas.List.{append-nil}
use Rattle.hcl_tokens.specs.Lexemes.{Lexeme}
use Rattle.hcl_grammar.specs.Numbered.{Numbered, number_tokens}
use Rattle.hcl_grammar.specs.Items.{is_closed, outline}
use Rattle.hcl_grammar.specs.ItemOrder.{Climbs, past}
use Rattle.hcl_grammar.specs.Labels.{text_of}
use Rattle.hcl_grammar.specs.declared.item.Item.{Item}
use Rattle.hcl_grammar.specs.declared.item.Item.TheVariants as item
use Rattle.hcl_grammar.proofs.NumberedLemmas.{drop_at}
use Rattle.hcl_grammar.proofs.ItemOrderLemmas.{outline_climbs}
use Rattle.tf_facts.specs.Declarations.{Attribute, Declaration, Declarer, SourceAt, PlainText, attribute, attributes_in, by_declarer, declarer, has, is_inside, is_kind, module_source, of_item, of_items, of_local, plain_text, source_of_plain_text, source_of_attribute, with_attribute}
use Rattle.tf_facts.specs.declared.declaration_kind.DeclarationKind.TheVariants as declares
use Rattle.tf_facts.specs.Sources.{Source, source_of}
use Rattle.tf_facts.specs.Found.{declaration, texts_of, source}
use Rattle.tf_facts.specs.Found as found
use Rattle.tf_facts.specs.Inner.Labelled.{AreNames}
use Rattle.tf_facts.specs.Inner.Values.{plain_text_of, value_of_attribute, values}
use Rattle.tf_facts.specs.declared.declaration_kind.DeclarationKind.{DeclarationKind}
use Rattle.tf_facts.specs.declared.found.Declared.{Declared}
use Rattle.tf_facts.specs.declared.found.FoundSource.{FoundSource}
use Rattle.tf_facts.specs.declared.names.Names.{Names}
use Rattle.tf_facts.specs.declared.names.Names.TheVariants as names
use Rattle.tf_facts.specs.declared.value.Value.{Value}
use Rattle.tf_facts.specs.declared.value.Plain.{Plain}
use Rattle.tf_facts.proofs.BodyLemmas.{attributes_here}

-- ---- labels

pub texts_are : (n : Names) (texts : List (List ℕ)) → AreNames n texts → length texts ≤ 2 → texts_of n ≡ texts
texts_are names.None texts h few = sym h
texts_are (names.One name) texts h few = sym h
texts_are (names.Two first second) texts h few = sym h
texts_are names.More texts h few = absurd (omega (arith, h, few))

-- ---- the source of a module

climbs_drop : (from to n : ℕ) (is : List Item) → Climbs from is to → (later : ℕ) × Climbs later (drop n is) to
climbs_drop from to zero is c = (from, c)
climbs_drop from to (suc n) [] c = (from, c)
climbs_drop from to (suc n) (i ∷ is) c = climbs_drop (past i) to n is c.1

-- an attribute ends within the block
ends_within : (ts : List Numbered) (p : Attribute → Bool) (from to : ℕ) (is : List Item) (a : Attribute) → Climbs from is to → find p (attributes_in ts is) ≡ Some a → a.end ≤ to
ends_within ts p from to [] a c e = absurd (cc)
ends_within ts p from to (item.Attribute level name first end ∷ is) a c e = by (λ h. ends_within ts p end to is a c.1 h) (is_closed level) (level == 1) e
  where
    it : Attribute
    it = record { name = text_of ts name; token = name; first = first; end = end }

    one : (find p (attributes_in ts is) ≡ Some a → a.end ≤ to) → (b : Bool) → cond b (Some it) (find p (attributes_in ts is)) ≡ Some a → a.end ≤ to
    one more true h = let same : it ≡ a = cc in let ends : end ≡ a.end = ap (λ x. x.end) same in omega (arith, ends, c.0.3)
    one more false h = more h

    by : (find p (attributes_in ts is) ≡ Some a → a.end ≤ to) → (b d : Bool) → find p (cond (not b) (with_attribute (cond d (Some it) None) (attributes_in ts is)) []) ≡ Some a → a.end ≤ to
    by more true d h = absurd (cc)
    by more false true h = one more (p it) h
    by more false false h = more h
ends_within ts p from to (item.Block level kind end ∷ is) a c e = by (λ h. ends_within ts p (kind + 1) to is a c.1 h) (is_closed level) e
  where
    by : (find p (attributes_in ts is) ≡ Some a → a.end ≤ to) → (b : Bool) → find p (cond (not b) (attributes_in ts is) []) ≡ Some a → a.end ≤ to
    by more true h = absurd (cc)
    by more false h = more h
ends_within ts p from to (item.Label l ∷ is) a c e = ends_within ts p (l.first + 1) to is a c.1 e

value_ends : (to : ℕ) (o : Option Attribute) (v : Value) → ((a : Attribute) → o ≡ Some a → a.end ≤ to) → option_map value_of_attribute o ≡ Some v → v.end ≤ to
value_ends to None v h e = absurd (cc)
value_ends to (Some a) v h e = let same : value_of_attribute a ≡ v = cc in let ends : a.end ≡ v.end = ap (λ w. w.end) same in omega (arith, ends, h a refl)

value_within : (tokens : List Lexeme) (n : ℕ) (wanted : List ℕ) (v : Value)
    → option_map value_of_attribute (find (λ a. bytes_eq a.name wanted) (attributes_in (number_tokens tokens) (drop n (outline tokens)))) ≡ Some v → v.end ≤ length tokens
value_within tokens n wanted v e =
    let c = climbs_drop 0 (length tokens) n (outline tokens) (outline_climbs tokens) in
    value_ends (length tokens) (find (λ a. bytes_eq a.name wanted) (attributes_in (number_tokens tokens) (drop n (outline tokens)))) v
    (λ a f. ends_within (number_tokens tokens) (λ x. bytes_eq x.name wanted) c.0 (length tokens) (drop n (outline tokens)) a c.1 f) e

pub values_within : (tokens : List Lexeme) (n : ℕ) (wanted : List ℕ) (o : Option Value)
    → o ≡ option_map value_of_attribute (find (λ a. bytes_eq a.name wanted) (attributes_in (number_tokens tokens) (drop n (outline tokens)))) → IfSome o (λ v. v.end ≤ length tokens)
values_within tokens n wanted None e = tt
values_within tokens n wanted (Some v) e = value_within tokens n wanted v (sym e)

pub no_value : (ts : List Numbered) (o : Option Attribute) → option_map value_of_attribute o ≡ None → source_of_attribute ts o ≡ None
no_value ts None e = refl
no_value ts (Some a) e = absurd (cc)

pub value_source : (tokens : List Lexeme) (o : Option Attribute) (v : Value) (p : Option PlainText) → option_map value_of_attribute o ≡ Some v → p ≡ plain_text (values tokens v.first v.end)
    → source_of_plain_text p ≡ source_of_attribute (number_tokens tokens) o
value_source tokens None v p e is = absurd (cc)
value_source tokens (Some a) v p e is =
    let same : value_of_attribute a ≡ v = cc in
    ap source_of_plain_text (is ∙ ap (λ w. plain_text (values tokens w.first w.end)) (sym same))

abbrev source_from : Source → ℕ → SourceAt ℕ
source_from s n = record { source = s; at = n }

pub source_found : (tokens : List Lexeme) (o : Option Attribute) (v : Value) (p : Plain) (s : FoundSource) → option_map value_of_attribute o ≡ Some v → Some (plain_text_of p) ≡ plain_text (values tokens v.first v.end)
    → source s.source ≡ source_of p.text.now → s.at ≡ p.quote → Some (found.found_source s) ≡ source_of_attribute (number_tokens tokens) o
source_found tokens o v p s e is same at =
    ap (λ x. Some (source_from x s.at)) same
    ∙ ap (λ n. Some (source_from (source_of p.text.now) n)) at
    ∙ value_source tokens o v (Some (plain_text_of p)) e is

-- ---- a block other than `locals`

abbrev made : DeclarationKind → List (List ℕ) → ℕ → Bool → Bool → Bool → Option (SourceAt ℕ) → Declaration ℕ
made kind texts at described typed versioned source = record { kind = kind; names = texts; at = at; described = described; typed = typed; versioned = versioned; source = source }

module _ (ts : List Numbered) (token : ℕ) (texts : List (List ℕ)) (attributes : List Attribute) (word : List ℕ) (same : word ≡ text_of ts token) where
  abbrev pub whole : List (Declaration ℕ)
  whole = by_declarer ts token texts attributes (declarer (text_of ts token))

  abbrev one : Declarer → Declaration ℕ
  one d = made d.kind texts token (has (codes "description") attributes) (has (codes "type") attributes) (has (codes "version") attributes) (cond (is_kind declares.Module d.kind) (module_source ts attributes) None)

  pub declares_one : (d : Declarer) → Some d ≡ declarer word → (length texts == d.labels) ≡ true → (found : Declared) → found.kind ≡ d.kind → texts_of found.names ≡ texts → found.at ≡ token
      → found.is_described ≡ has (codes "description") attributes → found.is_typed ≡ has (codes "type") attributes → found.is_versioned ≡ has (codes "version") attributes
      → (declaration found).source ≡ cond (is_kind declares.Module d.kind) (module_source ts attributes) None → declaration found ∷ [] ≡ whole
  declares_one d some fits found k n at a t v s =
      ap (λ x. made x (texts_of found.names) found.at found.is_described found.is_typed found.is_versioned (declaration found).source ∷ []) k
      ∙ ap (λ x. made d.kind x found.at found.is_described found.is_typed found.is_versioned (declaration found).source ∷ []) n
      ∙ ap (λ x. made d.kind texts x found.is_described found.is_typed found.is_versioned (declaration found).source ∷ []) at
      ∙ ap (λ x. made d.kind texts token x found.is_typed found.is_versioned (declaration found).source ∷ []) a
      ∙ ap (λ x. made d.kind texts token (has (codes "description") attributes) x found.is_versioned (declaration found).source ∷ []) t
      ∙ ap (λ x. made d.kind texts token (has (codes "description") attributes) (has (codes "type") attributes) x (declaration found).source ∷ []) v
      ∙ ap (λ x. made d.kind texts token (has (codes "description") attributes) (has (codes "type") attributes) (has (codes "version") attributes) x ∷ []) s
      ∙ ap (λ b. cond b (one d ∷ []) []) (sym fits)
      ∙ ap (by_declarer ts token texts attributes) (some ∙ ap declarer same)

-- ---- the attributes of `locals`

-- the declarations that were found, together with the remaining ones, are those of the block
abbrev pub AreLocals : List Numbered → List Item → ℕ → List Declared → List Declared → ℕ → Type 0
AreLocals ts items from old new n = map declaration new ++ map of_local (attributes_in ts (drop n items)) ≡ map declaration old ++ map of_local (attributes_in ts (drop from items))

module _ (ts : List Numbered) (items : List Item) (from : ℕ) (old new : List Declared) (n : ℕ) where
  module _ (i : Item) (e : slice_get items n ≡ Some i) where
    pub locals_over : is_inside i ≡ false → AreLocals ts items from old new n → map declaration new ≡ map declaration old ++ map of_local (attributes_in ts (drop from items))
    locals_over outside h =
        sym (append-nil (map declaration new))
        ∙ ap (λ more. map declaration new ++ map of_local more)
        (sym (attributes_here ts items n i e ∙ ap (λ b. cond b (with_attribute (attribute ts i) (attributes_in ts (drop (n + 1) items))) []) outside))
        ∙ h

    both : (o : Option Attribute) (more : List Attribute) → map of_local (with_attribute o more) ≡ map of_local (with_attribute o []) ++ map of_local more
    both None more = refl
    both (Some a) more = refl

    pub locals_more : (next : List Declared) → is_inside i ≡ true → map declaration next ≡ map declaration new ++ map of_local (with_attribute (attribute ts i) []) → AreLocals ts items from old new n
        → AreLocals ts items from old next (n + 1)
    locals_more next within put h =
        ap (λ r. r ++ map of_local (attributes_in ts (drop (n + 1) items))) put
        ∙ append_assoc (map declaration new) (map of_local (with_attribute (attribute ts i) [])) (map of_local (attributes_in ts (drop (n + 1) items)))
        ∙ ap (λ r. map declaration new ++ r)
        (sym (ap (map of_local) (attributes_here ts items n i e ∙ ap (λ b. cond b (with_attribute (attribute ts i) (attributes_in ts (drop (n + 1) items))) []) within)
        ∙ both (attribute ts i) (attributes_in ts (drop (n + 1) items))))
        ∙ h

-- ---- all items

abbrev pub AreDeclared : List Numbered → List Item → List Declared → ℕ → Type 0
AreDeclared ts items found n = map declaration found ++ of_items ts (drop n items) ≡ of_items ts items

module _ (ts : List Numbered) (items : List Item) (found : List Declared) (n : ℕ) where
  there_is : (k : ℕ) (xs : List Item) → k < length xs → (i : Item) × (slice_get xs k ≡ Some i)
  there_is k [] h = absurd (omega (arith, h))
  there_is zero (x ∷ xs) h = (x, refl)
  there_is (suc k) (x ∷ xs) h = there_is k xs (omega (arith, h))

  pub declared_more : (next : List Declared) → n < length items → ((i : Item) → slice_get items n ≡ Some i → map declaration next ≡ map declaration found ++ of_item ts i (drop (n + 1) items)) → AreDeclared ts items found n
      → AreDeclared ts items next (n + 1)
  declared_more next less put h =
      let i = there_is n items less in
      ap (λ r. r ++ of_items ts (drop (n + 1) items)) (put i.0 i.1)
      ∙ append_assoc (map declaration found) (of_item ts i.0 (drop (n + 1) items)) (of_items ts (drop (n + 1) items))
      ∙ ap (λ is. map declaration found ++ of_items ts is) (sym (drop_at items n i.0 i.1))
      ∙ h
