-- Declarations have at most as many places as there are attributes and labels, each of which has a token of its own.
use Rattle.std.proofs.Common.{◌≡◌, ◌∙◌, ap, refl, ℕ, suc, ◌+◌, ◌≤◌, Bool, true, false, cond, not, List, [], ◌∷◌, ◌++◌, map, length, arith}
use Rattle.std.specs.Prelude.{◌||◌, ◌==◌, Option, Some, None, codes, filter}
use Rattle.std.specs.List.{flat_map}
use Rattle.std.specs.Str.{bytes_eq}
use Rattle.std.proofs.lemmas.List.{length-append}
use Rattle.std.proofs.lemmas.Bool.Decides.{nat_tests}
use Rattle.std.proofs.lemmas.Grind.{flat_map-append}
use Rattle.hcl_tokens.specs.Kinds.{is}
use Rattle.hcl_tokens.specs.declared.token.Kind.TheVariants.{Assign, Ident, QuoteOpen}
use Rattle.hcl_tokens.specs.declared.token.Kind.{Kind}
use Rattle.hcl_grammar.specs.Labels.{text_of}
use Rattle.hcl_grammar.specs.Items.{closing_quote, is_closed, items_of, label_at}
use Rattle.hcl_grammar.specs.Numbered.{Numbered, is_comment, without_comments}
use Rattle.hcl_grammar.specs.declared.item.Item.{Item}
use Rattle.hcl_grammar.specs.declared.item.Item.TheVariants as item
use Rattle.tf_facts.specs.Declarations.{Attribute, Declaration, Declarer, SourceAt, attributes_in, by_declarer, declarations, declarer, has, is_empty, is_kind, labels_in, module_source, of_block, of_items, of_local, with_attribute}
use Rattle.tf_rules.specs.Growth.{places_of, source_places}
use Rattle.tf_facts.specs.declared.declaration_kind.DeclarationKind.TheVariants as declares
use Rattle.tf_rules.proofs.ItemWeightLemmas.{IsCounted, bit, items_weigh, weight, weight_filter}

-- how many tokens have these kinds
abbrev pub tally : (Kind → Bool) → List Numbered → ℕ
tally p ts = weight (λ t. bit (p t.kind)) ts

pub tally_filter : (p : Kind → Bool) (q : Numbered → Bool) (ts : List Numbered) → tally p (filter q ts) ≤ tally p ts
tally_filter p q ts = weight_filter (λ t. bit (p t.kind)) q ts

-- ---- attributes and labels, by their tokens

abbrev pub cost : List Item → ℕ
cost [] = 0
cost (item.Attribute level name first end ∷ is) = 1 + cost is
cost (item.Block level kind end ∷ is) = cost is
cost (item.Label l ∷ is) = 1 + cost is

cost_both : (is js : List Item) → cost (is ++ js) ≡ cost is + cost js
cost_both [] js = omega arith
cost_both (item.Attribute level name first end ∷ is) js = omega (arith, cost_both is js)
cost_both (item.Block level kind end ∷ is) js = cost_both is js
cost_both (item.Label l ∷ is) js = omega (arith, cost_both is js)

-- the kinds of `=`, and of the tokens that begin labels
abbrev pub is_telling : Kind → Bool
is_telling k = is Assign k || (is Ident k || is QuoteOpen k)

label_costs : (n : ℕ) (k : Kind) (rest : List Numbered) → cost (label_at n k rest) ≤ bit (is_telling k)
label_costs n k rest = by (is Assign k) (is Ident k) (is QuoteOpen k)
  where
    by : (a b c : Bool) → cost (cond b (item.Label (record { first = n; last = n }) ∷ []) (cond c (item.Label (record { first = n; last = closing_quote rest }) ∷ []) [])) ≤ bit (a || (b || c))
    by true true c = omega arith
    by true false true = omega arith
    by true false false = omega arith
    by false true c = omega arith
    by false false true = omega arith
    by false false false = omega arith

counted : IsCounted cost (λ t. bit (is_telling t.kind))
counted = record {
  none = refl;
  both = cost_both;
  block = λ level kind end. refl;
  attribute = λ level end name second e. omega (arith, ap (λ b. bit (b || (is Ident second.kind || is QuoteOpen second.kind))) e);
  label = λ t ts. label_costs t.number t.kind ts;
}

-- ---- declarations, by attributes and labels

abbrev pub places : List (Declaration ℕ) → ℕ
places ds = length (flat_map places_of ds)

places_both : (ds es : List (Declaration ℕ)) → places (ds ++ es) ≡ places ds + places es
places_both ds es = ap length (flat_map-append places_of ds es) ∙ length-append (flat_map places_of ds) (flat_map places_of es)

places_local : (attributes : List Attribute) → places (map of_local attributes) ≡ length attributes
places_local [] = refl
places_local (a ∷ attributes) = ap suc (places_local attributes)

source_few : (ts : List Numbered) (attributes : List Attribute) → length (source_places (module_source ts attributes)) ≤ length attributes
source_few ts [] = omega arith
source_few ts (a ∷ attributes) = omega (arith, one (module_source ts (a ∷ attributes)))
  where
    one : (o : Option (SourceAt ℕ)) → length (source_places o) ≤ 1
    one None = omega arith
    one (Some s) = omega arith

same_number : (a b : ℕ) → (a == b) ≡ true → a ≡ b
same_number a b e = grind (arith, nat_tests)

some_labels : (word : List ℕ) (d : Declarer) → declarer word ≡ Some d → 1 ≤ d.labels
some_labels word d e = by (bytes_eq word (codes "variable")) (bytes_eq word (codes "output")) (bytes_eq word (codes "module")) (bytes_eq word (codes "resource")) (bytes_eq word (codes "data")) e
  where
    one : (k : ℕ) (x : Declarer) → 1 ≤ x.labels → Some x ≡ Some d → 1 ≤ d.labels
    one k x h s = let same : x ≡ d = cc in let l : x.labels ≡ d.labels = ap (λ (y : Declarer). y.labels) same in omega (arith, h, l)

    by : (v o m r t : Bool)
        → cond v (Some (record { kind = declares.Variable; labels = 1 })) (cond o (Some (record { kind = declares.Output; labels = 1 })) (cond m (Some (record { kind = declares.Module; labels = 1 }))
        (cond r (Some (record { kind = declares.Resource; labels = 2 })) (cond t (Some (record { kind = declares.Data; labels = 2 })) None)))) ≡ Some d
        → 1 ≤ d.labels
    by true o m r t h = one 0 (record { kind = declares.Variable; labels = 1 }) (omega arith) h
    by false true m r t h = one 0 (record { kind = declares.Output; labels = 1 }) (omega arith) h
    by false false true r t h = one 0 (record { kind = declares.Module; labels = 1 }) (omega arith) h
    by false false false true t h = one 0 (record { kind = declares.Resource; labels = 2 }) (omega arith) h
    by false false false false true h = one 0 (record { kind = declares.Data; labels = 2 }) (omega arith) h
    by false false false false false h = absurd (let n : None ≡ Some d = h in cc)

module _ (ts : List Numbered) where
  declared_few : (token : ℕ) (names : List (List ℕ)) (attributes : List Attribute) (o : Option Declarer) → ((d : Declarer) → o ≡ Some d → 1 ≤ d.labels)
      → places (by_declarer ts token names attributes o) ≤ length attributes + length names
  declared_few token names attributes None h = omega arith
  declared_few token names attributes (Some d) h = by (length names == d.labels) refl (is_kind declares.Module d.kind)
    where
      it : Bool → Declaration ℕ
      it m = record {
        kind = d.kind;
        names = names;
        at = token;
        described = has (codes "description") attributes;
        typed = has (codes "type") attributes;
        versioned = has (codes "version") attributes;
        source = cond m (module_source ts attributes) None;
      }

      by : (b : Bool) → (length names == d.labels) ≡ b → (m : Bool) → places (cond b (it m ∷ []) []) ≤ length attributes + length names
      by true e true = omega (arith, same_number (length names) d.labels e, h d refl, source_few ts attributes, length-append (source_places (module_source ts attributes)) [])
      by true e false = omega (arith, same_number (length names) d.labels e, h d refl)
      by false e m = omega arith

  block_few : (token : ℕ) (names : List (List ℕ)) (attributes : List Attribute) → places (of_block ts token names attributes) ≤ length attributes + length names
  block_few token names attributes = by (bytes_eq (text_of ts token) (codes "locals")) (is_empty names)
    where
      by : (a b : Bool) → places (cond a (cond b (map of_local attributes) []) (by_declarer ts token names attributes (declarer (text_of ts token)))) ≤ length attributes + length names
      by true true = omega (arith, places_local attributes)
      by true false = omega arith
      by false b = declared_few token names attributes (declarer (text_of ts token)) (some_labels (text_of ts token))

  -- attributes and labels at the front belong to the block before them
  declared_cost : (is : List Item) → places (of_items ts is) + (length (attributes_in ts is) + length (labels_in ts is)) ≤ cost is
  declared_cost [] = omega arith
  declared_cost (item.Label l ∷ is) = omega (arith, declared_cost is)
  declared_cost (item.Attribute level name first end ∷ is) = by (is_closed level) (level == 1) (declared_cost is)
    where
      it : Attribute
      it = record { name = text_of ts name; token = name; first = first; end = end }

      by : (b d : Bool) → places (of_items ts is) + (length (attributes_in ts is) + length (labels_in ts is)) ≤ cost is
          → places (of_items ts is) + (length (cond (not b) (with_attribute (cond d (Some it) None) (attributes_in ts is)) []) + 0) ≤ 1 + cost is
      by true d h = omega (arith, h)
      by false true h = omega (arith, h)
      by false false h = omega (arith, h)
  declared_cost (item.Block level kind end ∷ is) = by (is_closed level) (declared_cost is)
    where
      by : (b : Bool) → places (of_items ts is) + (length (attributes_in ts is) + length (labels_in ts is)) ≤ cost is
          → places (cond b (of_block ts kind (labels_in ts is) (attributes_in ts is)) [] ++ of_items ts is) + (length (cond (not b) (attributes_in ts is) []) + 0) ≤ cost is
      by true h = omega (arith, h, block_few kind (labels_in ts is) (attributes_in ts is), places_both (of_block ts kind (labels_in ts is) (attributes_in ts is)) (of_items ts is))
      by false h = omega (arith, h)

-- THE COUNT
pub places_few : (ts : List Numbered) → places (declarations ts) ≤ tally is_telling ts
places_few ts =
    omega (
      arith,
      declared_cost ts (items_of ts),
      items_weigh cost (λ t. bit (is_telling t.kind)) counted (length ts) 0 (without_comments ts),
      tally_filter is_telling (λ t. not (is_comment t.kind)) ts,
    )
