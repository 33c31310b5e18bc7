-- The facts of a file name its tokens in order, so one walk through the file reaches all facts of a kind.
use Rattle.std.proofs.Common.{◌≡◌, sym, subst, ℕ, suc, zero, ◌+◌, ◌-◌, ◌<◌, ◌≤◌, Bool, true, false, cond, not, List, [], ◌∷◌, ◌++◌, map, drop, take, length, arith}
use Rattle.std.specs.Prelude.{◌&&◌, ◌||◌, ◌==◌, Option, Some, None, codes, find}
use Rattle.std.specs.List.{flat_map}
use Rattle.std.specs.Str.{bytes_eq}
use Rattle.std.proofs.lemmas.Grind.{flat_map-append}
use Rattle.hcl_tokens.specs.Kinds.{is}
use Rattle.hcl_tokens.specs.declared.token.Kind.TheVariants.{LineComment, Lit, Newline, QuoteClose, QuoteOpen}
use Rattle.hcl_tokens.specs.Lexemes.{Lexeme}
use Rattle.hcl_tokens.specs.Scans.{Scans}
use Rattle.hcl_grammar.specs.Numbered.{Numbered, number_tokens, numbered_from, significant, is_comment, is_passed_over}
use Rattle.hcl_grammar.specs.Items.{is_closed, outline}
use Rattle.hcl_grammar.specs.ItemOrder.{Climbs}
use Rattle.hcl_grammar.specs.Labels.{text_of}
use Rattle.hcl_grammar.specs.Verdict.{start_of}
use Rattle.hcl_grammar.specs.declared.item.Item.{Item}
use Rattle.hcl_grammar.specs.declared.item.Item.TheVariants as item
use Rattle.hcl_grammar.proofs.ItemOrderLemmas.{Rises, outline_climbs, rises_filter, rises_numbered, rises_wide}
use Rattle.hcl_grammar.proofs.NumberedLemmas.{numbered_at}
use Rattle.tf_facts.specs.Comments.{Comment, comments, is_any}
use Rattle.tf_facts.specs.Declarations.{Attribute, Declaration, Declarer, attributes_in, by_declarer, declarer, declarations, is_empty, is_kind, labels_in, module_source, of_block, of_items, of_local, plain_text, source_of_plain_text, source_of_attribute, value_of, has, with_attribute}
use Rattle.tf_facts.specs.declared.declaration_kind.DeclarationKind.TheVariants as declares
use Rattle.tf_facts.specs.Patterns.{legacy_indexes, numbers_where, wrapped_interpolations, is_index, is_wrapped}
use Rattle.tf_facts.specs.Silencing.{has_slashes, silenced_rules}
use Rattle.tf_rules.specs.Inner.Locating.{Forward, numbers_of, quotes}
use Rattle.tf_rules.proofs.StartLemmas.{starts_rise}

-- the numbers rise, are at least `from` and below `to`
abbrev pub Rise : ℕ → List ℕ → ℕ → Type 0
Rise from [] to = from ≤ to
Rise from (n ∷ ns) to = (from ≤ n) × Rise (n + 1) ns to

rise_wide : (from to : ℕ) (ns : List ℕ) → Rise from ns to → from ≤ to
rise_wide from to [] h = h
rise_wide from to (n ∷ ns) h = omega (arith, h.0, rise_wide (n + 1) to ns h.1)

rise_from : (from later to : ℕ) (ns : List ℕ) → from ≤ later → Rise later ns to → Rise from ns to
rise_from from later to [] h r = omega (arith, h, r)
rise_from from later to (n ∷ ns) h r = (omega (arith, h, r.0), r.1)

rise_both : (from mid to : ℕ) (ns ms : List ℕ) → Rise from ns mid → Rise mid ms to → Rise from (ns ++ ms) to
rise_both from mid to [] ms h k = rise_from from mid to ms h k
rise_both from mid to (n ∷ ns) ms h k = (h.0, rise_both (n + 1) mid to ns ms h.1 k)

-- ---- comments and patterns

abbrev comment_numbers : List Numbered → List ℕ
comment_numbers ts = map (λ (c : Comment ℕ). c.at) (comments ts)

comments_rise : (from to : ℕ) (ts : List Numbered) → Rises from ts to → Rise from (comment_numbers ts) to
comments_rise from to [] h = h
comments_rise from to (t ∷ ts) h = by (is LineComment t.kind) (has_slashes t.text || is_any (silenced_rules t.text)) (comments_rise (t.number + 1) to ts h.1)
  where
    one : Comment ℕ
    one = record { at = t.number; slashes = has_slashes t.text; silences = silenced_rules t.text }

    by : (a b : Bool) → Rise (t.number + 1) (comment_numbers ts) to → Rise from (map (λ (c : Comment ℕ). c.at) (cond a (cond b (one ∷ []) []) [] ++ comments ts)) to
    by true true r = (h.0, r)
    by true false r = rise_from from (t.number + 1) to (comment_numbers ts) (omega (arith, h.0)) r
    by false b r = rise_from from (t.number + 1) to (comment_numbers ts) (omega (arith, h.0)) r

where_rise : (test : List Numbered → Bool) (from to : ℕ) (ts : List Numbered) → Rises from ts to → Rise from (numbers_where test ts) to
where_rise test from to [] h = h
where_rise test from to (t ∷ ts) h = by (test (t ∷ ts)) (where_rise test (t.number + 1) to ts h.1)
  where
    by : (b : Bool) → Rise (t.number + 1) (numbers_where test ts) to → Rise from (cond b (t.number ∷ []) [] ++ numbers_where test ts) to
    by true r = (h.0, r)
    by false r = rise_from from (t.number + 1) to (numbers_where test ts) (omega (arith, h.0)) r

-- ---- the source of a module

rises_taken : (n k : ℕ) (xs : List Lexeme) → Rises n (take k (numbered_from n xs)) (n + k)
rises_taken n zero xs = omega arith
rises_taken n (suc k) [] = omega arith
rises_taken n (suc k) (x ∷ xs) = (omega arith, let e : n + 1 + k ≡ n + suc k = omega arith in subst (λ (to : ℕ). Rises (n + 1) (take k (numbered_from (n + 1) xs)) to) e (rises_taken (n + 1) k xs))

value_rises : (tokens : List Lexeme) (a : Attribute) → a.first ≤ a.end → Rises a.first (value_of (number_tokens tokens) a) a.end
value_rises tokens a h =
    let e : a.first + (a.end - a.first) ≡ a.end = omega (arith, h) in
    rises_filter (λ t. not (is_comment t.kind) && not (is Newline t.kind)) a.first a.end (take (a.end - a.first) (drop a.first (number_tokens tokens)))
    (subst (λ (ts : List Numbered). Rises a.first (take (a.end - a.first) ts) a.end) (sym (numbered_at tokens a.first))
    (subst (λ (to : ℕ). Rises a.first (take (a.end - a.first) (numbered_from a.first (drop a.first tokens))) to) e (rises_taken a.first (a.end - a.first) (drop a.first tokens))))

plain_rises : (from to : ℕ) (vs : List Numbered) → Rises from vs to → Rise from (quotes (source_of_plain_text (plain_text vs))) to
plain_rises from to [] h = h
plain_rises from to (q ∷ []) h = rises_wide from to (q ∷ []) h
plain_rises from to (q ∷ c ∷ []) h = by (is QuoteOpen q.kind && is QuoteClose c.kind)
  where
    by : (b : Bool) → Rise from (quotes (source_of_plain_text (cond b (Some (record { quote = q.number; text = [] })) None))) to
    by true = (h.0, rises_wide (q.number + 1) to (c ∷ []) h.1)
    by false = rises_wide from to (q ∷ c ∷ []) h
plain_rises from to (q ∷ l ∷ c ∷ []) h = by (is QuoteOpen q.kind && is Lit l.kind && is QuoteClose c.kind)
  where
    by : (b : Bool) → Rise from (quotes (source_of_plain_text (cond b (Some (record { quote = q.number; text = l.text })) None))) to
    by true = (h.0, rises_wide (q.number + 1) to (l ∷ c ∷ []) h.1)
    by false = rises_wide from to (q ∷ l ∷ c ∷ []) h
plain_rises from to (q ∷ l ∷ c ∷ d ∷ ds) h = rises_wide from to (q ∷ l ∷ c ∷ d ∷ ds) h

-- ---- declarations

abbrev named : List (Declaration ℕ) → List ℕ
named ds = flat_map numbers_of ds

-- the numbers in the declarations of the items; in the attributes at the front as locals, and then in the declarations;
-- in the source at the front, and then in the declarations: each rise
record IsRising (tokens : List Lexeme) (from : ℕ) (is : List Item) (to : ℕ) : Type 0 where
  items : Rise from (named (of_items (number_tokens tokens) is)) to
  locals : Rise from (named (map of_local (attributes_in (number_tokens tokens) is)) ++ named (of_items (number_tokens tokens) is)) to
  source : Rise from (quotes (module_source (number_tokens tokens) (attributes_in (number_tokens tokens) is)) ++ named (of_items (number_tokens tokens) is)) to

module _ (tokens : List Lexeme) where
  abbrev ts : List Numbered
  ts = number_tokens tokens

  later : (from mid to : ℕ) (is : List Item) → from ≤ mid → IsRising tokens mid is to → IsRising tokens from is to
  later from mid to is h r = record {
    items = rise_from from mid to (named (of_items ts is)) h r.items;
    locals = rise_from from mid to (named (map of_local (attributes_in ts is)) ++ named (of_items ts is)) h r.locals;
    source = rise_from from mid to (quotes (module_source ts (attributes_in ts is)) ++ named (of_items ts is)) h r.source;
  }

  disjoint : (from to : ℕ) (ds es : List (Declaration ℕ)) → Rise from (named ds ++ named es) to → Rise from (named (ds ++ es)) to
  disjoint from to ds es h = subst (λ (ns : List ℕ). Rise from ns to) (sym (flat_map-append numbers_of ds es)) h

  declared_rise : (from to kind : ℕ) (is : List Item) (names : List (List ℕ)) (o : Option Declarer) → from ≤ kind → IsRising tokens (kind + 1) is to → Rise from (named (by_declarer ts kind names (attributes_in ts is) o ++ of_items ts is)) to
  declared_rise from to kind is names None h r = rise_from from (kind + 1) to (named (of_items ts is)) (omega (arith, h)) r.items
  declared_rise from to kind is names (Some d) h r = by (length names == d.labels) (is_kind declares.Module d.kind)
    where
      it : Bool → Declaration ℕ
      it m = record {
        kind = d.kind;
        names = names;
        at = kind;
        described = has (codes "description") (attributes_in ts is);
        typed = has (codes "type") (attributes_in ts is);
        versioned = has (codes "version") (attributes_in ts is);
        source = cond m (module_source ts (attributes_in ts is)) None;
      }

      by : (b m : Bool) → Rise from (named (cond b (it m ∷ []) [] ++ of_items ts is)) to
      by true true = (h, r.source)
      by true false = (h, r.items)
      by false m = rise_from from (kind + 1) to (named (of_items ts is)) (omega (arith, h)) r.items

  block_rises : (from to kind : ℕ) (is : List Item) (names : List (List ℕ)) → from ≤ kind → IsRising tokens (kind + 1) is to → Rise from (named (of_block ts kind names (attributes_in ts is) ++ of_items ts is)) to
  block_rises from to kind is names h r = by (bytes_eq (text_of ts kind) (codes "locals")) (is_empty names)
    where
      by : (a b : Bool) → Rise from (named (cond a (cond b (map of_local (attributes_in ts is)) []) (by_declarer ts kind names (attributes_in ts is) (declarer (text_of ts kind))) ++ of_items ts is)) to
      by true true = disjoint from to (map of_local (attributes_in ts is)) (of_items ts is) (rise_from from (kind + 1) to (named (map of_local (attributes_in ts is)) ++ named (of_items ts is)) (omega (arith, h)) r.locals)
      by true false = rise_from from (kind + 1) to (named (of_items ts is)) (omega (arith, h)) r.items
      by false b = declared_rise from to kind is names (declarer (text_of ts kind)) h r

  all_rise : (from to : ℕ) (is : List Item) → Climbs from is to → IsRising tokens from is to
  all_rise from to [] c = record { items = c; locals = c; source = c }
  all_rise from to (item.Label l ∷ is) c = let r = later from (l.first + 1) to is (omega (arith, c.0.0)) (all_rise (l.first + 1) to is c.1) in record { items = r.items; locals = r.locals; source = r.source }
  all_rise from to (item.Block level kind end ∷ is) c = let r = by (is_closed level) (all_rise (kind + 1) to is c.1) in record { items = r.0; locals = r.1; source = r.2 }
    where
      items_by : Bool → List (Declaration ℕ)
      items_by b = cond b (of_block ts kind (labels_in ts is) (attributes_in ts is)) [] ++ of_items ts is

      inside_by : Bool → List Attribute
      inside_by b = cond (not b) (attributes_in ts is) []

      by : (b : Bool) → IsRising tokens (kind + 1) is to
          → (Rise from (named (items_by b)) to) × (Rise from (named (map of_local (inside_by b)) ++ named (items_by b)) to) × (Rise from (quotes (module_source ts (inside_by b)) ++ named (items_by b)) to)
      by true r = let i = block_rises from to kind is (labels_in ts is) c.0.0 r in (i, i, i)
      by false r = let l = later from (kind + 1) to is (omega (arith, c.0.0)) r in (l.items, l.locals, l.source)
  all_rise from to (item.Attribute level name first end ∷ is) c =
      let r : IsRising tokens end is to = all_rise end to is c.1 in
      let l : IsRising tokens from is to = later from end to is (omega (arith, c.0.0, c.0.1, c.0.2)) r in
      let both = by (is_closed level) (level == 1) r l in
      record { items = l.items; locals = both.0; source = both.1 }
    where
      it : Attribute
      it = record { name = text_of ts name; token = name; first = first; end = end }

      is_source : Attribute → Bool
      is_source a = bytes_eq a.name (codes "source")

      inside_by : Bool → Bool → List Attribute
      inside_by b e = cond (not b) (with_attribute (cond e (Some it) None) (attributes_in ts is)) []

      one : (b : Bool) → IsRising tokens end is to → IsRising tokens from is to → Rise from (quotes (source_of_attribute ts (cond b (Some it) (find is_source (attributes_in ts is)))) ++ named (of_items ts is)) to
      one true r l =
          let q : Rise first (quotes (source_of_plain_text (plain_text (value_of ts it)))) end = plain_rises first end (value_of ts it) (value_rises tokens it c.0.2) in
          rise_both from end to (quotes (source_of_plain_text (plain_text (value_of ts it)))) (named (of_items ts is)) (rise_from from first end (quotes (source_of_plain_text (plain_text (value_of ts it)))) (omega (arith, c.0.0, c.0.1)) q) r.items
      one false r l = l.source

      by : (b e : Bool) → IsRising tokens end is to → IsRising tokens from is to
          → (Rise from (named (map of_local (inside_by b e)) ++ named (of_items ts is)) to) × (Rise from (quotes (module_source ts (inside_by b e)) ++ named (of_items ts is)) to)
      by true e r l = (l.items, l.items)
      by false true r l = ((c.0.0, rise_from (name + 1) end to (named (map of_local (attributes_in ts is)) ++ named (of_items ts is)) (omega (arith, c.0.1, c.0.2)) r.locals), one (is_source it) r l)
      by false false r l = (l.locals, l.source)

  all_numbered : Rises 0 ts (length tokens)
  all_numbered = let e : 0 + length tokens ≡ length tokens = omega arith in subst (λ (to : ℕ). Rises 0 ts to) e (rises_numbered 0 tokens)

  pub comments_in_order : Rise 0 (map (λ (c : Comment ℕ). c.at) (comments ts)) (length tokens)
  comments_in_order = comments_rise 0 (length tokens) ts all_numbered

  patterns_in_order : (test : List Numbered → Bool) → Rise 0 (numbers_where test (significant ts)) (length tokens)
  patterns_in_order test = where_rise test 0 (length tokens) (significant ts) (rises_filter (λ t. not (is_passed_over t.kind)) 0 (length tokens) ts all_numbered)

  pub indexes_in_order : Rise 0 (legacy_indexes ts) (length tokens)
  indexes_in_order = patterns_in_order is_index

  pub interpolations_in_order : Rise 0 (wrapped_interpolations ts) (length tokens)
  interpolations_in_order = patterns_in_order is_wrapped

  pub declarations_in_order : Rise 0 (flat_map numbers_of (declarations ts)) (length tokens)
  declarations_in_order = (all_rise 0 (length tokens) (outline tokens) (outline_climbs tokens)).items

  -- ---- the walk reaches these tokens

  module _ (text : List ℕ) (scanned : Scans text tokens) where
    goes : (from reached : ℕ) (ns : List ℕ) → ((j : ℕ) → from ≤ j → j < length tokens → reached ≤ start_of tokens j) → Rise from ns (length tokens) → Forward tokens reached ns
    goes from reached [] h r = tt
    goes from reached (n ∷ ns) h r =
        let within : n < length tokens = omega (arith, rise_wide (n + 1) (length tokens) ns r.1) in
        (within, h n r.0 within, goes (n + 1) (start_of tokens n) ns (λ j low high. starts_rise text tokens scanned n j (omega (arith, low)) high) r.1)

    goes_all : (ns : List ℕ) → Rise 0 ns (length tokens) → Forward tokens 0 ns
    goes_all ns r = goes 0 0 ns (λ j low high. omega arith) r

    pub comments_forward : Forward tokens 0 (map (λ (c : Comment ℕ). c.at) (comments ts))
    comments_forward = goes_all (comment_numbers ts) comments_in_order

    pub indexes_forward : Forward tokens 0 (legacy_indexes ts)
    indexes_forward = goes_all (legacy_indexes ts) indexes_in_order

    pub interpolations_forward : Forward tokens 0 (wrapped_interpolations ts)
    interpolations_forward = goes_all (wrapped_interpolations ts) interpolations_in_order

    pub declarations_forward : Forward tokens 0 (flat_map numbers_of (declarations ts))
    declarations_forward = goes_all (flat_map numbers_of (declarations ts)) declarations_in_order
