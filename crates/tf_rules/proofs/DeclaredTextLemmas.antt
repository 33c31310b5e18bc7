-- The texts of declarations have at most as many bytes as the attributes and labels weigh: the name of a default branch
-- is no longer than the attribute's `source` and its `=`.
use Rattle.std.proofs.Common.{◌≡◌, ◌∙◌, ap, sym, refl, true≢false, ℕ, ◌+◌, ◌≤◌, Bool, true, false, cond, not, List, [], ◌∷◌, ◌++◌, map, length, arith}
use Rattle.std.specs.Prelude.{◌||◌, ◌==◌, Option, Some, None, codes, find}
use Rattle.std.specs.List.{flat_map}
use Rattle.std.specs.Str.{bytes_eq}
use Rattle.std.proofs.lemmas.Slice.Eq.{bytes_eq-Decides}
use Rattle.std.proofs.lemmas.Grind.{flat_map-append}
use Rattle.hcl_grammar.specs.Items.{is_closed}
use Rattle.hcl_grammar.specs.Labels.{label_text, text_of}
use Rattle.hcl_grammar.specs.Numbered.{Numbered}
use Rattle.hcl_grammar.specs.declared.item.Item.{Item}
use Rattle.hcl_grammar.specs.declared.item.Item.TheVariants as item
use Rattle.tf_facts.specs.Declarations.{Attribute, Declaration, Declarer, PlainText, SourceAt, attributes_in, by_declarer, declarer, has, is_empty, is_kind, labels_in, module_source, of_block, of_items, of_local, plain_text, source_of_plain_text, source_of_attribute, value_of, with_attribute}
use Rattle.tf_facts.specs.declared.declaration_kind.DeclarationKind.TheVariants as declares
use Rattle.tf_facts.specs.Sources.{Other, NotPinned, DefaultBranch, Registry, is_default_branch, is_git, is_mercurial, is_registry, pinned_to, revision, source_of}
use Rattle.tf_rules.specs.Growth.{branch_of, bytes, source_texts, declared_texts}
use Rattle.tf_rules.proofs.NameCostLemmas.{cost}

pub bytes_both : (xs ys : List (List ℕ)) → bytes (xs ++ ys) ≡ bytes xs + bytes ys
bytes_both [] ys = omega arith
bytes_both (x ∷ xs) ys = omega (arith, bytes_both xs ys)

abbrev pub told : {P : Type 0} → List (Declaration P) → ℕ
told ds = bytes (flat_map declared_texts ds)

pub told_both : {P : Type 0} (ds es : List (Declaration P)) → told (ds ++ es) ≡ told ds + told es
told_both ds es = ap bytes (flat_map-append declared_texts ds es) ∙ bytes_both (flat_map declared_texts ds) (flat_map declared_texts es)

-- ---- sources

same_length : (r x : List ℕ) (n : ℕ) → bytes_eq r x ≡ true → length x ≡ n → length r ≡ n
same_length r x n e h = ap length ((bytes_eq-Decides r x).0 e) ∙ h

default_short : (r : List ℕ) → is_default_branch r ≡ true → length r ≤ 7
default_short r e = by (bytes_eq r (codes "master")) (bytes_eq r (codes "main")) (bytes_eq r (codes "default")) (bytes_eq r (codes "develop")) refl refl refl refl e
  where
    by : (a b c d : Bool) → bytes_eq r (codes "master") ≡ a → bytes_eq r (codes "main") ≡ b → bytes_eq r (codes "default") ≡ c → bytes_eq r (codes "develop") ≡ d → (a || (b || (c || (d || false)))) ≡ true → length r ≤ 7
    by true b c d m i f v h = omega (arith, same_length r (codes "master") 6 m refl)
    by false true c d m i f v h = omega (arith, same_length r (codes "main") 4 i refl)
    by false false true d m i f v h = omega (arith, same_length r (codes "default") 7 f refl)
    by false false false true m i f v h = omega (arith, same_length r (codes "develop") 7 v refl)
    by false false false false m i f v h = absurd (true≢false (sym h))

pinned_short : (r : List ℕ) → bytes (branch_of (pinned_to r)) ≤ 7
pinned_short r = by (length r == 0) (is_default_branch r) refl
  where
    by : (a b : Bool) → is_default_branch r ≡ b → bytes (branch_of (cond a NotPinned (cond b (DefaultBranch r) Other))) ≤ 7
    by true b e = omega arith
    by false true e = omega (arith, default_short r e)
    by false false e = omega arith

branch_short : (text : List ℕ) → bytes (branch_of (source_of text)) ≤ 7
branch_short text = by (is_git text) (is_mercurial text) (is_registry text)
  where
    by : (g m r : Bool) → bytes (branch_of (cond g (pinned_to (revision (codes "ref=") text)) (cond m (pinned_to (revision (codes "rev=") text)) (cond r Registry Other)))) ≤ 7
    by true m r = pinned_short (revision (codes "ref=") text)
    by false true r = pinned_short (revision (codes "rev=") text)
    by false false true = omega arith
    by false false false = omega arith

-- ---- one block

-- an attribute weighs as much as its name and its `=`
abbrev pub named : List Attribute → ℕ
named [] = 0
named (a ∷ attributes) = 1 + (length a.name + named attributes)

told_local : (attributes : List Attribute) → told (map of_local attributes) ≤ named attributes
told_local [] = omega arith
told_local (a ∷ attributes) = omega (arith, told_local attributes)

module _ (ts : List Numbered) where
  plain_short : (o : Option PlainText) → bytes (source_texts (source_of_plain_text o)) ≤ 7
  plain_short None = omega arith
  plain_short (Some p) = branch_short p.text

  source_short : (attributes : List Attribute) → bytes (source_texts (module_source ts attributes)) ≤ named attributes
  source_short [] = omega arith
  source_short (a ∷ attributes) = by (bytes_eq a.name (codes "source")) refl (source_short attributes)
    where
      by : (b : Bool) → bytes_eq a.name (codes "source") ≡ b → bytes (source_texts (module_source ts attributes)) ≤ named attributes
          → bytes (source_texts (source_of_attribute ts (cond b (Some a) (find (λ x. bytes_eq x.name (codes "source")) attributes)))) ≤ 1 + (length a.name + named attributes)
      by true e h = omega (arith, plain_short (plain_text (value_of ts a)), same_length a.name (codes "source") 6 e refl)
      by false e h = omega (arith, h)

  declarer_told : (token : ℕ) (names : List (List ℕ)) (attributes : List Attribute) (o : Option Declarer) → told (by_declarer ts token names attributes o) ≤ named attributes + bytes names
  declarer_told token names attributes None = omega arith
  declarer_told token names attributes (Some d) = by (length names == d.labels) (is_kind declares.Module d.kind)
    where
      source : Bool → Option (SourceAt ℕ)
      source m = cond m (module_source ts attributes) None

      it : Bool → Declaration ℕ
      it m = record {
        kind = d.kind;
        names = names;
        at = token;
        described = has (codes "description") attributes;
        typed = has (codes "type") attributes;
        versioned = has (codes "version") attributes;
        source = source m;
      }

      one : (m : Bool) → told (it m ∷ []) ≡ bytes names + bytes (source_texts (source m))
      one m = bytes_both (names ++ source_texts (source m)) [] ∙ (let e : bytes (names ++ source_texts (source m)) + 0 ≡ bytes names + bytes (source_texts (source m)) = omega (arith, bytes_both names (source_texts (source m))) in e)

      by : (b m : Bool) → told (cond b (it m ∷ []) []) ≤ named attributes + bytes names
      by true true = omega (arith, one true, source_short attributes)
      by true false = omega (arith, one false)
      by false m = omega arith

  block_told : (token : ℕ) (names : List (List ℕ)) (attributes : List Attribute) → told (of_block ts token names attributes) ≤ named attributes + bytes names
  block_told token names attributes = by (bytes_eq (text_of ts token) (codes "locals")) (is_empty names)
    where
      by : (a b : Bool) → told (cond a (cond b (map of_local attributes) []) (by_declarer ts token names attributes (declarer (text_of ts token)))) ≤ named attributes + bytes names
      by true true = omega (arith, told_local attributes)
      by true false = omega arith
      by false b = declarer_told token names attributes (declarer (text_of ts token))

  -- ---- item by item

  module _ (w : ℕ → ℕ) where
    -- the text of an item has at most as many bytes as its first token weighs
    abbrev pub Weighs : Item → Type 0
    Weighs (item.Label l) = length (label_text ts l) ≤ w l.first
    Weighs (item.Attribute level name first end) = length (text_of ts name) ≤ w name
    Weighs (item.Block level kind end) = Unit {0}

    abbrev pub AllWeigh : List Item → Type 0
    AllWeigh [] = Unit {0}
    AllWeigh (i ∷ is) = Weighs i × AllWeigh is

    -- attributes and labels at the front belong to the block before them
    pub told_few : (is : List Item) → AllWeigh is → told (of_items ts is) + (named (attributes_in ts is) + bytes (labels_in ts is)) ≤ cost w is
    told_few [] weigh = omega arith
    told_few (item.Label l ∷ is) weigh = omega (arith, weigh.0, told_few is weigh.1)
    told_few (item.Attribute level name first end ∷ is) weigh = by (is_closed level) (level == 1) (told_few is weigh.1) weigh.0
      where
        it : Attribute
        it = record { name = text_of ts name; token = name; first = first; end = end }

        by : (b d : Bool) → told (of_items ts is) + (named (attributes_in ts is) + bytes (labels_in ts is)) ≤ cost w is → length (text_of ts name) ≤ w name
            → told (of_items ts is) + (named (cond (not b) (with_attribute (cond d (Some it) None) (attributes_in ts is)) []) + 0) ≤ 1 + (w name + cost w is)
        by true d h k = omega (arith, h)
        by false true h k = omega (arith, h, k)
        by false false h k = omega (arith, h)
    told_few (item.Block level kind end ∷ is) weigh = by (is_closed level) (told_few is weigh.1)
      where
        by : (b : Bool) → told (of_items ts is) + (named (attributes_in ts is) + bytes (labels_in ts is)) ≤ cost w is
            → told (cond b (of_block ts kind (labels_in ts is) (attributes_in ts is)) [] ++ of_items ts is) + (named (cond (not b) (attributes_in ts is) []) + 0) ≤ cost w is
        by true h = omega (arith, h, block_told kind (labels_in ts is) (attributes_in ts is), told_both (of_block ts kind (labels_in ts is) (attributes_in ts is)) (of_items ts is))
        by false h = omega (arith, h)
