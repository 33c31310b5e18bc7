-- A file has at most as many stored entries as tokens: each entry has a token of its own.
use Rattle.std.proofs.Common.{◌≡◌, ap, sym, refl, true≢false, ℕ, suc, ◌+◌, ◌≤◌, Bool, true, false, cond, List, [], ◌∷◌, ◌++◌, map, drop, length, arith}
use Rattle.std.specs.Prelude.{◌&&◌, ◌||◌, Option, Some, None, not}
use Rattle.std.specs.List.{flat_map, list_any}
use Rattle.std.specs.Str.{bytes_eq}
use Rattle.std.proofs.lemmas.List.{length-append, length-map}
use Rattle.std.proofs.lemmas.Grind.{flat_map-append}
use Rattle.indexmap.specs.IndexSet.{insert_all, insert_key}
use Rattle.hcl_tokens.specs.Kinds.{is}
use Rattle.hcl_tokens.specs.Lexemes.{Lexeme}
use Rattle.hcl_tokens.specs.declared.token.Kind.{Kind}
use Rattle.hcl_tokens.specs.declared.token.Kind.TheVariants as kind
use Rattle.hcl_grammar.specs.Numbered.{Numbered, numbered_from, significant, is_passed_over}
use Rattle.tf_facts.specs.Comments.{Comment, comments, is_any}
use Rattle.tf_facts.specs.Declarations.{Declaration, SourceAt, declarations}
use Rattle.tf_rules.specs.Growth.{entries, places_of, source_places}
use Rattle.tf_rules.specs.Issues.{File, comment_at, place_in, tokens_of}
use Rattle.tf_rules.specs.Stored.{Stored, declaration_at, source_at, with_file}
use Rattle.tf_facts.specs.Patterns.{begins_with_close, after_closer, is_index, is_wrapped, legacy_indexes, numbers_where, wrapped_interpolations}
use Rattle.tf_facts.specs.References.{VariableSpan, by_name, is_self_reference, name_after, variable_blocks, reference_at, references, references_from, unless_self_reference}
use Rattle.tf_facts.specs.Silencing.{has_slashes, silenced_rules}
use Rattle.tf_rules.proofs.ItemCostLemmas.{is_telling, places, places_few, tally, tally_filter}
use Rattle.tf_rules.proofs.ItemWeightLemmas.{bit}

none_at_most_one : 0 ≤ 1
none_at_most_one = omega arith

one_kind : (k : Kind) → bit (is kind.LineComment k) + (bit (is kind.Dot k) + (bit (is kind.InterpOpen k) + bit (is_telling k))) ≤ 1
one_kind kind.LineComment = omega arith
one_kind kind.Dot = omega arith
one_kind kind.InterpOpen = omega arith
one_kind kind.Assign = omega arith
one_kind kind.Ident = omega arith
one_kind kind.QuoteOpen = omega arith
one_kind _ = none_at_most_one

kinds_few : (ts : List Numbered) → tally (is kind.LineComment) ts + (tally (is kind.Dot) ts + (tally (is kind.InterpOpen) ts + tally is_telling ts)) ≤ length ts
kinds_few [] = omega arith
kinds_few (t ∷ ts) = omega (arith, one_kind t.kind, kinds_few ts)

-- ---- comments

comments_few : (ts : List Numbered) → length (comments ts) ≤ tally (is kind.LineComment) ts
comments_few [] = omega arith
comments_few (t ∷ ts) = by (is kind.LineComment t.kind) (has_slashes t.text || is_any (silenced_rules t.text)) (comments_few ts)
  where
    one : Comment ℕ
    one = record { at = t.number; slashes = has_slashes t.text; silences = silenced_rules t.text }

    by : (a b : Bool) → length (comments ts) ≤ tally (is kind.LineComment) ts → length (cond a (cond b (one ∷ []) []) [] ++ comments ts) ≤ bit a + tally (is kind.LineComment) ts
    by true true h = omega (arith, h)
    by true false h = omega (arith, h)
    by false b h = omega (arith, h)

-- ---- interpolations, by the tokens after their quotes

abbrev interpolates : List Numbered → Bool
interpolates [] = false
interpolates (t ∷ ts) = is kind.InterpOpen t.kind

wrapped_by : (t : Numbered) (ts : List Numbered) → interpolates ts ≡ false → is_wrapped (t ∷ ts) ≡ false
wrapped_by t [] e = refl
wrapped_by t (i ∷ rest) e = by (is kind.QuoteOpen t.kind) (is kind.InterpOpen i.kind) e
  where
    by : (a b : Bool) → b ≡ false → (a && b && begins_with_close (after_closer 0 rest)) ≡ false
    by true b h = ap (λ c. c && begins_with_close (after_closer 0 rest)) h
    by false b h = refl

wrapped_few : (ts : List Numbered) → length (numbers_where is_wrapped ts) + bit (interpolates ts) ≤ tally (is kind.InterpOpen) ts
wrapped_few [] = omega arith
wrapped_few (t ∷ ts) = by (is_wrapped (t ∷ ts)) (interpolates ts) (wrapped_by t ts) (wrapped_few ts)
  where
    by : (a b : Bool) → (b ≡ false → a ≡ false) → length (numbers_where is_wrapped ts) + bit b ≤ tally (is kind.InterpOpen) ts
        → length (cond a (t.number ∷ []) [] ++ numbers_where is_wrapped ts) + bit (is kind.InterpOpen t.kind) ≤ bit (is kind.InterpOpen t.kind) + tally (is kind.InterpOpen) ts
    by true true n h = omega (arith, h)
    by true false n h = absurd (true≢false (n refl))
    by false b n h = omega (arith, h)

-- ---- references and indexes, by their dots

abbrev names_next : List Numbered → Bool
names_next [] = false
names_next (d ∷ []) = false
names_next (d ∷ n ∷ rest) = is kind.Dot d.kind && is kind.Ident n.kind

own_few : (own : List VariableSpan) (n : ℕ) (o : Option (List ℕ)) → length (unless_self_reference own n o) ≤ 1
own_few own n None = omega arith
own_few own n (Some text) = by (is_self_reference own n text)
  where
    by : (b : Bool) → length (cond b [] (text ∷ [])) ≤ 1
    by true = omega arith
    by false = omega arith

unnamed : (ts : List Numbered) → names_next ts ≡ false → name_after ts ≡ None
unnamed [] e = refl
unnamed (d ∷ []) e = refl
unnamed (d ∷ n ∷ rest) e = ap (λ b. cond b (Some n) None) e

-- a reference begins with an identifier, followed by a dot and a name
none_begun : (own : List VariableSpan) (t : Numbered) (ts : List Numbered) → (is kind.Ident t.kind && names_next ts) ≡ false → length (unless_self_reference own t.number (reference_at (t ∷ ts))) ≡ 0
none_begun own t ts e = ap (λ o. length (unless_self_reference own t.number o)) (by (is kind.Ident t.kind) (names_next ts) (unnamed ts) e)
  where
    by : (a b : Bool) → (b ≡ false → name_after ts ≡ None) → (a && b) ≡ false → cond a (by_name t.text (name_after ts) (drop 2 ts)) None ≡ None
    by true b u h = ap (λ o. by_name t.text o (drop 2 ts)) (u h)
    by false b u h = refl

begun_few : (own : List VariableSpan) (t : Numbered) (ts : List Numbered) → length (unless_self_reference own t.number (reference_at (t ∷ ts))) ≤ bit (is kind.Ident t.kind && names_next ts)
begun_few own t ts = by (is kind.Ident t.kind && names_next ts) refl
  where
    by : (b : Bool) → (is kind.Ident t.kind && names_next ts) ≡ b → length (unless_self_reference own t.number (reference_at (t ∷ ts))) ≤ bit b
    by true e = own_few own t.number (reference_at (t ∷ ts))
    by false e = omega (arith, none_begun own t ts e)

-- how many references and indexes there are, if a dot precedes the tokens or not
abbrev dotted : List VariableSpan → Bool → List Numbered → ℕ
dotted own after ts = length (numbers_where is_index ts) + length (references_from own after ts)

-- a dot before a name is no index, and begins no reference
abbrev AreDotted : List VariableSpan → List Numbered → Type 0
AreDotted own ts = ((after : Bool) → dotted own after ts + 0 ≤ tally (is kind.Dot) ts) × (names_next ts ≡ true → dotted own false ts + 1 ≤ tally (is kind.Dot) ts)

index_few : (t : Numbered) (ts : List Numbered) → bit (is_index (t ∷ ts)) + bit (is kind.Ident t.kind && names_next ts) ≤ bit (is kind.Dot t.kind) + bit (names_next ts)
index_few t [] = by (is kind.Ident t.kind)
  where
    by : (a : Bool) → 0 + bit (a && false) ≤ bit (is kind.Dot t.kind) + 0
    by true = omega arith
    by false = omega arith
index_few t (n ∷ rest) = by (is kind.Dot t.kind) (is kind.Number n.kind) (is kind.Ident t.kind) (names_next (n ∷ rest)) (disjoint t.kind)
  where
    disjoint : (k : Kind) → is kind.Dot k ≡ true → is kind.Ident k ≡ false
    disjoint kind.Dot e = refl
    disjoint _ e = absurd (true≢false (sym e))

    by : (d m i b : Bool) → (d ≡ true → i ≡ false) → bit (d && m) + bit (i && b) ≤ bit d + bit b
    by true true true b h = absurd (true≢false (h refl))
    by true true false b h = omega arith
    by true false true b h = absurd (true≢false (h refl))
    by true false false b h = omega arith
    by false m true true h = omega arith
    by false m true false h = omega arith
    by false m false b h = omega arith

named_dot : (t : Numbered) (ts : List Numbered) → names_next (t ∷ ts) ≡ true → (is kind.Dot t.kind ≡ true) × (is_index (t ∷ ts) ≡ false) × (is kind.Ident t.kind ≡ false)
named_dot t [] e = absurd (true≢false (sym e))
named_dot t (n ∷ rest) e = by t.kind n.kind e
  where
    number : (k : Kind) → is kind.Ident k ≡ true → is kind.Number k ≡ false
    number kind.Ident h = refl
    number _ h = absurd (true≢false (sym h))

    by : (k l : Kind) → (is kind.Dot k && is kind.Ident l) ≡ true → (is kind.Dot k ≡ true) × ((is kind.Dot k && is kind.Number l) ≡ false) × (is kind.Ident k ≡ false)
    by kind.Dot l h = (refl, number l h, refl)
    by _ l h = absurd (true≢false (sym h))

numbers_here : (t : Numbered) (ts : List Numbered) → length (numbers_where is_index (t ∷ ts)) ≡ bit (is_index (t ∷ ts)) + length (numbers_where is_index ts)
numbers_here t ts = by (is_index (t ∷ ts))
  where
    by : (b : Bool) → length (cond b (t.number ∷ []) [] ++ numbers_where is_index ts) ≡ bit b + length (numbers_where is_index ts)
    by true = omega arith
    by false = omega arith

references_here : (own : List VariableSpan) (after : Bool) (t : Numbered) (ts : List Numbered)
    → length (references_from own after (t ∷ ts)) ≤ length (unless_self_reference own t.number (reference_at (t ∷ ts))) + length (references_from own (is kind.Dot t.kind) ts)
references_here own true t ts = omega arith
references_here own false t ts = omega (arith, length-append (unless_self_reference own t.number (reference_at (t ∷ ts))) (references_from own (is kind.Dot t.kind) ts))

module _ (own : List VariableSpan) (t : Numbered) (ts : List Numbered) (more : AreDotted own ts) where
  left : (b : Bool) → names_next ts ≡ b → is kind.Dot t.kind ≡ false → dotted own (is kind.Dot t.kind) ts + bit b ≤ tally (is kind.Dot) ts
  left true e d = let h = more.1 e in omega (arith, h, ap (λ a. length (references_from own a ts)) d)
  left false e d = more.0 (is kind.Dot t.kind)

  no_word : (k : Kind) → is kind.Dot k ≡ true → bit (is kind.Ident k && names_next ts) ≡ 0
  no_word kind.Dot h = refl
  no_word _ h = absurd (true≢false (sym h))

  at_most : (c : Bool) → bit c ≤ 1
  at_most true = omega arith
  at_most false = omega arith

  any_by : (after b : Bool) → is kind.Dot t.kind ≡ b → dotted own after (t ∷ ts) + 0 ≤ bit (is kind.Dot t.kind) + tally (is kind.Dot) ts
  any_by after true d =
      let none = no_word t.kind d in
      let one : bit (is kind.Dot t.kind) ≡ 1 = ap bit d in
      let m = more.0 (is kind.Dot t.kind) in
      omega (arith, numbers_here t ts, at_most (is_index (t ∷ ts)), references_here own after t ts, begun_few own t ts, none, one, m)
  any_by after false d =
      let l = left (names_next ts) refl d in
      let none : bit (is kind.Dot t.kind) ≡ 0 = ap bit d in
      omega (arith, numbers_here t ts, index_few t ts, references_here own after t ts, begun_few own t ts, none, l)

  first : names_next (t ∷ ts) ≡ true → dotted own false (t ∷ ts) + 1 ≤ bit (is kind.Dot t.kind) + tally (is kind.Dot) ts
  first e =
      let d = named_dot t ts e in
      let one : bit (is kind.Dot t.kind) ≡ 1 = ap bit d.0 in
      let none : bit (is_index (t ∷ ts)) ≡ 0 = ap bit d.1 in
      let word : bit (is kind.Ident t.kind && names_next ts) ≡ 0 = ap (λ b. bit (b && names_next ts)) d.2 in
      let m = more.0 (is kind.Dot t.kind) in
      omega (arith, numbers_here t ts, none, one, references_here own false t ts, begun_few own t ts, word, m)

dots_few : (own : List VariableSpan) (ts : List Numbered) → AreDotted own ts
dots_few own [] = ((λ after. omega arith), (λ e. absurd (true≢false (sym e))))
dots_few own (t ∷ ts) = let more = dots_few own ts in ((λ after. any_by own t ts more after (is kind.Dot t.kind) refl), first own t ts more)

-- ---- all facts

few : (ts : List Numbered) → length (comments ts) + (length (legacy_indexes ts) + (length (wrapped_interpolations ts) + (places (declarations ts) + length (references ts)))) ≤ length ts
few ts =
    let dots = (dots_few (variable_blocks ts) (significant ts)).0 false in
    omega (
      arith,
      kinds_few ts,
      comments_few ts,
      dots,
      wrapped_few (significant ts),
      places_few ts,
      tally_filter (is kind.Dot) (λ t. not (is_passed_over t.kind)) ts,
      tally_filter (is kind.InterpOpen) (λ t. not (is_passed_over t.kind)) ts,
    )

-- ---- the stored entries

len_numbered : (n : ℕ) (ts : List Lexeme) → length (numbered_from n ts) ≡ length ts
len_numbered n [] = refl
len_numbered n (t ∷ ts) = ap suc (len_numbered (n + 1) ts)

inserted_few : (ks : List (List ℕ)) (k : List ℕ) → length (insert_key bytes_eq ks k) ≤ length ks + 1
inserted_few ks k = by (list_any (bytes_eq k) ks)
  where
    by : (b : Bool) → length (cond b ks (ks ++ k ∷ [])) ≤ length ks + 1
    by true = omega arith
    by false = omega (arith, length-append ks (k ∷ []))

all_inserted_few : (ks xs : List (List ℕ)) → length (insert_all bytes_eq ks xs) ≤ length ks + length xs
all_inserted_few ks [] = omega arith
all_inserted_few ks (x ∷ xs) = omega (arith, inserted_few ks x, all_inserted_few (insert_key bytes_eq ks x) xs)

module _ {P Q : Type 0} (f : P → Q) where
  source_same : (o : Option (SourceAt P)) → length (source_places (source_at f o)) ≡ length (source_places o)
  source_same None = refl
  source_same (Some s) = refl

  places_same : (ds : List (Declaration P)) → length (flat_map places_of (map (declaration_at f) ds)) ≡ length (flat_map places_of ds)
  places_same [] = refl
  places_same (d ∷ ds) =
      omega (
        arith,
        length-append (source_places (source_at f d.source)) (flat_map places_of (map (declaration_at f) ds)),
        length-append (source_places d.source) (flat_map places_of ds),
        source_same d.source,
        places_same ds,
      )

pub entries_grow : (kept : Stored) (file : File) → entries (with_file kept file) ≤ entries kept + length file.source.tokens
entries_grow kept file =
    let ts = tokens_of file in
    omega (
      arith,
      few ts,
      len_numbered 0 file.source.tokens,
      length-append kept.facts.comments (map (comment_at (place_in file)) (comments ts)),
      length-map (comments ts) (comment_at (place_in file)),
      length-append kept.facts.indexes (map (place_in file) (legacy_indexes ts)),
      length-map (legacy_indexes ts) (place_in file),
      length-append kept.facts.interpolations (map (place_in file) (wrapped_interpolations ts)),
      length-map (wrapped_interpolations ts) (place_in file),
      ap length (flat_map-append places_of kept.facts.declarations (map (declaration_at (place_in file)) (declarations ts))),
      length-append (flat_map places_of kept.facts.declarations) (flat_map places_of (map (declaration_at (place_in file)) (declarations ts))),
      places_same (place_in file) (declarations ts),
      all_inserted_few kept.references (references ts),
    )
