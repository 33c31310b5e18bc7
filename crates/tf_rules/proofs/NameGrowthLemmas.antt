-- The stored texts of a file that is scanned and accepted have at most as many bytes as the file: each text has a token
-- of its own.
use Rattle.std.proofs.Common.{◌≡◌, ◌∙◌, ap, sym, refl, ℕ, ◌+◌, ◌≤◌, Bool, true, false, cond, not, List, [], ◌∷◌, ◌++◌, map, drop, length, arith}
use Rattle.std.specs.Prelude.{◌&&◌, ◌||◌, ◌==◌, Option, Some, None}
use Rattle.std.specs.List.{flat_map, list_any}
use Rattle.std.specs.Str.{bytes_eq}
use Rattle.std.proofs.lemmas.List.{drop-drop}
use Rattle.indexmap.specs.IndexSet.{insert_all, insert_key}
use Rattle.hcl_tokens.specs.Kinds.{is}
use Rattle.hcl_tokens.specs.Lexemes.{Lexeme}
use Rattle.hcl_tokens.specs.Scans.{Scans}
use Rattle.hcl_tokens.specs.declared.token.Kind.{Kind}
use Rattle.hcl_tokens.specs.declared.token.Kind.TheVariants as kind
use Rattle.hcl_grammar.specs.Items.{items_of}
use Rattle.hcl_grammar.specs.Labels.{first_literal, first_text, label_text, text_of}
use Rattle.hcl_grammar.specs.Numbered.{Numbered, is_comment, is_passed_over, numbered_from, significant, without_comments}
use Rattle.hcl_grammar.specs.Verdict.{IsAccepted}
use Rattle.hcl_grammar.specs.declared.item.Item.{Item}
use Rattle.hcl_grammar.specs.declared.item.Item.TheVariants as item
use Rattle.hcl_grammar.specs.declared.item.Label.{Label}
use Rattle.tf_rules.proofs.NamePlaceLemmas.{IsDisjoint, disjoint, disjoint_on, begins_dot, follows_dot, first, is_disjoint}
use Rattle.tf_rules.proofs.SegmentTurnLemmas.{AllGood, Good}
use Rattle.tf_rules.proofs.PlainLabelLemmas.{file_good}
use Rattle.tf_facts.specs.Declarations.{Declaration, SourceAt, declarations}
use Rattle.tf_facts.specs.References.{variable_blocks, references}
use Rattle.tf_rules.specs.Growth.{bytes, name_bytes, source_texts, declared_texts}
use Rattle.tf_rules.specs.Issues.{File, place_in, tokens_of}
use Rattle.tf_rules.specs.Stored.{Stored, declaration_at, source_at, with_file}
use Rattle.tf_rules.proofs.DeclaredTextLemmas.{AllWeigh, Weighs, bytes_both, told, told_both, told_few}
use Rattle.tf_rules.proofs.ItemWeightLemmas.{bit, items_weigh, weight, weight_filter}
use Rattle.tf_rules.proofs.NameCostLemmas.{cost, counted, weigh}
use Rattle.tf_rules.proofs.ReferenceCostLemmas.{comes_dot, dotted, made_few}
use Rattle.tf_rules.proofs.TextSizeLemmas.{Solid, text_bytes, tokens_few, tokens_solid}

-- ---- the weight of a token that names an item: its text, and the literal after it

abbrev literal : List Numbered → ℕ
literal ts = length (first_literal ts)

module _ (all : List Numbered) where
  abbrev own_weight : ℕ → ℕ
  own_weight n = cond (first (drop n (disjoint false all))) (length (text_of all n) + literal (drop (n + 1) all)) 0

  disjoint_weighs : (n : ℕ) → IsDisjoint all n → own_weight n ≡ length (text_of all n) + literal (drop (n + 1) all)
  disjoint_weighs n h = ap (λ b. cond b (length (text_of all n) + literal (drop (n + 1) all)) 0) h

  label_weighs : (l : Label) → IsDisjoint all l.first → length (label_text all l) ≤ own_weight l.first
  label_weighs l h = by (l.first == l.last)
    where
      by : (b : Bool) → length (cond b (text_of all l.first) (first_literal (drop (l.first + 1) all))) ≤ own_weight l.first
      by true = omega (arith, disjoint_weighs l.first h)
      by false = omega (arith, disjoint_weighs l.first h)

  item_weighs : (i : Item) → Good all i → Weighs all own_weight i
  item_weighs (item.Label l) h = label_weighs l h.1
  item_weighs (item.Attribute level name first end) h = omega (arith, disjoint_weighs name h)
  item_weighs (item.Block level kind end) h = tt

  all_weigh : (is : List Item) → AllGood all is → AllWeigh all own_weight is
  all_weigh [] h = tt
  all_weigh (i ∷ is) h = (item_weighs i h.0, all_weigh is h.1)

-- ---- one token

same_begin : (ts : List Numbered) → comes_dot ts ≡ begins_dot ts
same_begin [] = refl
same_begin (t ∷ ts) = refl

-- the weight of a token as a part of a reference
abbrev in_reference : Bool → Bool → Kind → ℕ → ℕ
in_reference dot next k n = cond (is_passed_over k) 0 (bit (is kind.Dot k) + cond (is kind.Ident k && (dot || next)) n 0)

abbrev as_name : Bool → Bool → Kind → ℕ → ℕ
as_name dot next k n = cond (is kind.QuoteOpen k || (is kind.Ident k && (not dot && not next))) n 0

none_few : (n m : ℕ) → 0 ≤ n + m
none_few n m = omega arith

one_token : (k : Kind) (dot next : Bool) (n m : ℕ) → bit (is kind.Dot k || is kind.Assign k) ≤ n → bit (is kind.Assign k) + (as_name dot next k (n + m) + (in_reference dot next k n + cond (is kind.Lit k) n 0)) ≤ n + m
one_token kind.Ident true next n m h = omega arith
one_token kind.Ident false true n m h = omega arith
one_token kind.Ident false false n m h = omega arith
one_token kind.QuoteOpen dot next n m h = omega arith
one_token kind.Dot dot next n m h = omega (arith, h)
one_token kind.Assign dot next n m h = omega (arith, h)
one_token kind.Lit dot next n m h = omega arith
one_token _ dot next n m h = none_few n m

dotted_here : (dot : Bool) (t : Numbered) (ts : List Numbered)
    → dotted dot (significant (t ∷ ts)) ≡ in_reference dot (begins_dot (significant ts)) t.kind (length t.text) + dotted (follows_dot dot t.kind) (significant ts)
dotted_here dot t ts = by (is_passed_over t.kind)
  where
    by : (b : Bool) → dotted dot (cond (not b) (t ∷ significant ts) (significant ts))
        ≡ cond b 0 (bit (is kind.Dot t.kind) + cond (is kind.Ident t.kind && (dot || begins_dot (significant ts))) (length t.text) 0) + dotted (cond b dot (is kind.Dot t.kind)) (significant ts)
    by true = omega arith
    by false =
        let c : cond (is kind.Ident t.kind && (dot || comes_dot (significant ts))) (length t.text) 0 ≡ cond (is kind.Ident t.kind && (dot || begins_dot (significant ts))) (length t.text) 0 = ap (λ d. cond (is kind.Ident t.kind && (dot || d)) (length t.text) 0) (same_begin (significant ts)) in
        omega (arith, c)

literal_here : (t : Numbered) (ts : List Numbered) → literal (t ∷ ts) ≡ cond (is kind.Lit t.kind) (length t.text) 0
literal_here t ts = by (is kind.Lit t.kind)
  where
    by : (b : Bool) → length (cond b t.text []) ≡ cond b (length t.text) 0
    by true = refl
    by false = refl

-- ---- all tokens

module _ (all : List Numbered) where
  pub all_few : (n : ℕ) (dot : Bool) (ts : List Lexeme) → drop n all ≡ numbered_from n ts → drop n (disjoint false all) ≡ disjoint dot (numbered_from n ts) → Solid ts
      → weight (weigh (own_weight all)) (numbered_from n ts) + (dotted dot (significant (numbered_from n ts)) + literal (numbered_from n ts)) ≤ text_bytes ts
  all_few n dot [] here beside_ solid = omega arith
  all_few n dot (t ∷ ts) here marks solid =
      omega (
        arith,
        all_few (n + 1) (follows_dot dot t.kind) ts there (disjoint_on all n dot it more marks) solid.1,
        weighs,
        one_token t.kind dot (begins_dot (significant more)) (length t.text) (literal more) solid.0,
        dotted_here dot it more,
        literal_here it more,
      )
    where
      it : Numbered
      it = record { number = n; kind = t.kind; text = t.text }

      more : List Numbered
      more = numbered_from (n + 1) ts

      there : drop (n + 1) all ≡ more
      there = sym (drop-drop 1 n all) ∙ ap (drop 1) here

      weighs : own_weight all n ≡ as_name dot (begins_dot (significant more)) t.kind (length t.text + literal more)
      weighs =
          ap (λ b. cond (first b) (length (text_of all n) + literal (drop (n + 1) all)) 0) marks
          ∙ ap (λ r. cond (is_disjoint dot t.kind more) (length (first_text r) + literal (drop (n + 1) all)) 0) here
          ∙ ap (λ r. cond (is_disjoint dot t.kind more) (length t.text + literal r) 0) there

-- ---- the stored texts

inserted_short : (ks : List (List ℕ)) (k : List ℕ) → bytes (insert_key bytes_eq ks k) ≤ bytes ks + length k
inserted_short ks k = by (list_any (bytes_eq k) ks)
  where
    by : (b : Bool) → bytes (cond b ks (ks ++ k ∷ [])) ≤ bytes ks + length k
    by true = omega arith
    by false = omega (arith, bytes_both ks (k ∷ []))

all_inserted_short : (ks xs : List (List ℕ)) → bytes (insert_all bytes_eq ks xs) ≤ bytes ks + bytes xs
all_inserted_short ks [] = omega arith
all_inserted_short ks (x ∷ xs) = omega (arith, inserted_short ks x, all_inserted_short (insert_key bytes_eq ks x) xs)

module _ {P Q : Type 0} (f : P → Q) where
  source_same : (o : Option (SourceAt P)) → bytes (source_texts (source_at f o)) ≡ bytes (source_texts o)
  source_same None = refl
  source_same (Some s) = refl

  told_same : (ds : List (Declaration P)) → told (map (declaration_at f) ds) ≡ told ds
  told_same [] = refl
  told_same (d ∷ ds) =
      omega (
        arith,
        bytes_both (d.names ++ source_texts (source_at f d.source)) (flat_map declared_texts (map (declaration_at f) ds)),
        bytes_both (d.names ++ source_texts d.source) (flat_map declared_texts ds),
        bytes_both d.names (source_texts (source_at f d.source)),
        bytes_both d.names (source_texts d.source),
        source_same d.source,
        told_same ds,
      )

pub names_grow : (kept : Stored) (file : File) → Scans file.source.text file.source.tokens → IsAccepted file.source.tokens → name_bytes (with_file kept file) ≤ name_bytes kept + length file.source.text
names_grow kept file scans accepted =
    let ts = tokens_of file in
    omega (
      arith,
      tokens_few file.source.text file.source.tokens scans,
      all_few ts 0 false file.source.tokens refl refl (tokens_solid file.source.text file.source.tokens scans),
      weight_filter (weigh (own_weight ts)) (λ t. not (is_comment t.kind)) ts,
      items_weigh (cost (own_weight ts)) (weigh (own_weight ts)) (counted (own_weight ts)) (length ts) 0 (without_comments ts),
      told_few ts (own_weight ts) (items_of ts) (all_weigh ts (items_of ts) (file_good file.source.text file.source.tokens scans accepted)),
      made_few (variable_blocks ts) (significant ts) false,
      told_both kept.facts.declarations (map (declaration_at (place_in file)) (declarations ts)),
      told_same (place_in file) (declarations ts),
      all_inserted_short kept.references (references ts),
    )
