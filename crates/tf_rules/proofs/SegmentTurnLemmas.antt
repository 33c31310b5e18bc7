-- The labels and names of items, for a reader that goes through their tokens place by place.
use Rattle.std.proofs.Common.{◌≡◌, ◌⊎◌, inl, inr, ℕ, zero, suc, ◌+◌, ◌-◌, ◌<◌, ◌≤◌, Bool, true, false, cond, List, [], ◌∷◌, ◌++◌, drop, take, arith, refl, sym, ap, subst, ◌∙◌, true≢false, append_assoc, lt-ltb, le-ltb}
use Rattle.std.specs.Prelude.{◌&&◌, ◌||◌, ◌==◌, Some, None, filter, nat_lt}
use Rattle.std.specs.List.{flat_map}
use Rattle.std.proofs.lemmas.Bool.{cases_lt}
use Rattle.std.proofs.lemmas.Bool.Decides.{nat_tests}
use Rattle.std.proofs.lemmas.List.Elements.{filter-append}
use Rattle.hcl_tokens.specs.Kinds.{is}
use Rattle.hcl_tokens.specs.declared.token.Kind.{Kind}
use Rattle.hcl_tokens.specs.declared.token.Kind.TheVariants as kind
use Rattle.hcl_grammar.specs.Items.{after_brace, block, block_end, body, closing_quote, deepen, is_closed, item_of, items, label_at, labels, onto, segments}
use Rattle.hcl_grammar.specs.Labels.{first_literal, label_text, text_of}
use Rattle.tf_rules.specs.AsWritten.{IsAsWritten, between_quotes}
use Rattle.hcl_grammar.specs.Numbered.{Numbered, end_of}
use Rattle.hcl_grammar.specs.declared.item.Item.{Item}
use Rattle.hcl_grammar.specs.declared.item.Item.TheVariants as item
use Rattle.hcl_grammar.specs.declared.item.Label.{Label}
use Rattle.hcl_grammar.proofs.ItemOrderLemmas.{AllRise, Rises, segments_rise, rises_wide}
use Rattle.tf_rules.proofs.TurnLemmas.{Place, line, labelled, started, named, single, value, ended, level, inside, depth, may_end, may_stop, is_line, turn, goes, Goes, IsLeft, Turns, breaks, moves, turns, from_line, from_labels, from_quote, from_literal, from_start, from_name}
use Rattle.tf_rules.proofs.NamePlaceLemmas.{IsDisjoint, is_name}
use Rattle.tf_rules.proofs.TurnLemmas as at

abbrev pub in_quotes : Place → Bool
in_quotes (at.quoted k) = true
in_quotes (at.written k) = true
in_quotes _ = false

abbrev pub Begins : ℕ → List Numbered → Type 0
Begins n [] = Unit {0}
Begins n (u ∷ us) = u.number ≡ n

-- inside a label's quotes no token is skipped
abbrev pub Adjoins : Place → ℕ → List Numbered → Type 0
Adjoins p n ts = in_quotes p ≡ true → Begins (n + 1) ts

-- a token is the one of its number; if it names an item, no dot is beside it
abbrev pub Stands : List Numbered → Place → Numbered → Type 0
Stands all p t = (drop t.number all ≡ t ∷ drop (t.number + 1) all) × (is_name p t.kind ≡ true → IsDisjoint all t.number)

-- the tokens lead from a place to another, and each place on the way meets the condition
abbrev pub Leads : (all : List Numbered) → (Place → Type 0) → Place → List Numbered → Place → Type 0
Leads all ok p [] end = p ≡ end
Leads all ok p (t ∷ ts) end =
    (q : Place) × (turn p t.kind ≡ Some q) × ok q × Stands all p t × Adjoins q t.number ts × Leads all ok q ts end

-- no fewer bodies are open
abbrev pub Within : ℕ → Place → Type 0
Within k q = k ≤ level q

-- and no line begins there
abbrev pub Inside : ℕ → Place → Type 0
Inside k q = (k ≤ level q) × (is_line q ≡ true → k < level q)

abbrev pub Stops : ℕ → Place → Type 0
Stops k end = (may_stop end ≡ true) × (depth end ≤ k)

module _ (all : List Numbered) where
  -- a segment from a place on
  abbrev pub Segment : ℕ → Place → List Numbered → Type 0
  Segment k p ts = (end : Place) × Leads all (Inside k) p ts end × Stops k end

  abbrev pub LineSegments : ℕ → List (List Numbered) → Type 0
  LineSegments k [] = Unit {0}
  LineSegments k (p ∷ ps) = Segment k (line k) p × LineSegments k ps

  -- the first from a place on, the others from the beginning of a line
  abbrev pub Segments : ℕ → Place → List (List Numbered) → Type 0
  Segments k p [] = ⊥
  Segments k p (x ∷ xs) = Segment k p x × LineSegments k xs

  level_depth : (p : Place) → level p ≤ depth p
  level_depth p = omega arith

  -- ---- the segments of lines

  -- the tokens before the first segment of the rest
  put_front : (k : ℕ) (p q : Place) (t : Numbered) (ts : List Numbered) (ps : List (List Numbered)) → turn p t.kind ≡ Some q → Inside k q → Stands all p t
      → ((x : List Numbered) → (xs : List (List Numbered)) → ps ≡ x ∷ xs → Adjoins q t.number x) → Segments k q ps → Segments k p (onto t ps)
  put_front k p q t ts [] turned ok here next h = absurd h
  put_front k p q t ts (x ∷ xs) turned ok here next h = ((h.0.0, (q, turned, ok, here, next x xs refl, h.0.1), h.0.2), h.1)

  -- the first segment begins like the tokens
  first_begins : (n d : ℕ) (ts x : List Numbered) (xs : List (List Numbered)) → Begins n ts → segments d ts ≡ x ∷ xs → Begins n x
  first_begins n d [] x xs h e = let f : [] ≡ x = cc in subst (λ r. Begins n r) f tt
  first_begins n d (t ∷ ts) x xs h e = by (is kind.Newline t.kind && is_closed d) (segments (deepen d t.kind) ts) e
    where
      by : (b : Bool) (ps : List (List Numbered)) → cond b ([] ∷ ps) (onto t ps) ≡ x ∷ xs → Begins n x
      by true ps e = let f : [] ≡ x = cc in subst (λ r. Begins n r) f tt
      by false [] e = let f : t ∷ [] ≡ x = cc in subst (λ r. Begins n r) f h
      by false (y ∷ ys) e = let f : t ∷ y ≡ x = cc in subst (λ r. Begins n r) f h

  flat_all : (k : ℕ) (p : Place) → k ≤ level p → is_closed (depth p - k) ≡ true → (inside p ≡ 0) × (level p ≡ k)
  flat_all k p low closed = let z = zero_of (depth p - k) closed in (omega (arith, low, z), omega (arith, low, z))
    where
      zero_of : (n : ℕ) → is_closed n ≡ true → n ≡ 0
      zero_of zero e = refl
      zero_of (suc n) e = absurd (true≢false (sym e))

  pub cut : (k : ℕ) (p : Place) (ts : List Numbered) (end : Place) → k ≤ level p → Leads all (Within k) p ts end → Stops k end → Segments k p (segments (depth p - k) ts)
  cut k p [] end low leads stops = ((end, leads, stops), tt)
  cut k p (t ∷ ts) end low leads stops =
      by (is kind.Newline t.kind && is_closed (depth p - k)) refl (turns p t.kind q leads.1) (cut k q ts end leads.2 leads.5 stops)
    where
      q : Place
      q = leads.0

      P : List (List Numbered)
      P = segments (deepen (depth p - k) t.kind) ts

      newline : (b c : Bool) → (b && c) ≡ true → (b ≡ true) × (c ≡ true)
      newline true c e = (refl, e)
      newline false c e = absurd (true≢false (sym e))

      level_newline : (x : Kind) → is kind.Newline x ≡ true → (n : ℕ) → deepen n x ≡ n
      level_newline kind.Newline e n = omega arith
      level_newline _ e n = absurd (true≢false (sym e))

      zero_of : (n : ℕ) → is_closed n ≡ true → n ≡ 0
      zero_of zero e = refl
      zero_of (suc n) e = absurd (true≢false (sym e))

      broken : q ≡ line k → Segments k q (segments (depth q - k) ts) → deepen (depth p - k) t.kind ≡ 0 → may_end p ≡ true → depth p ≤ k → Segments k p ([] ∷ P)
      broken is rest flat ends low =
          let d : depth q - k ≡ 0 = ap (λ x. depth x - k) is ∙ (let z : (k + 0) - k ≡ 0 = omega arith in z) in
          let more : Segments k (line k) P = subst (λ x. Segments k x P) is (subst (λ (n : ℕ). Segments k q (segments n ts)) (d ∙ sym flat) rest) in
          ((p, refl, (stops_there p ends, low)), lines P more)
        where
          stops_there : (p : Place) → may_end p ≡ true → may_stop p ≡ true
          stops_there (at.line k) e = refl
          stops_there (at.started k) e = refl
          stops_there (at.value k h) e = refl
          stops_there (at.ended k) e = refl
          stops_there _ e = absurd (true≢false (sym e))

          lines : (ps : List (List Numbered)) → Segments k (line k) ps → LineSegments k ps
          lines [] h = tt
          lines (x ∷ xs) h = h

      by : (b : Bool) → (is kind.Newline t.kind && is_closed (depth p - k)) ≡ b → Turns p t.kind q → Segments k q (segments (depth q - k) ts) → Segments k p (cond b ([] ∷ P) (onto t P))
      by true this (breaks nl flat ends to) rest =
          let n = newline (is kind.Newline t.kind) (is_closed (depth p - k)) this in
          let f = flat_all k p low n.1 in
          broken (to ∙ ap line f.1) rest (level_newline t.kind n.0 (depth p - k) ∙ zero_of (depth p - k) n.1) ends (omega (arith, f.0, f.1))
      by true this (moves still g) rest =
          let n = newline (is kind.Newline t.kind) (is_closed (depth p - k)) this in
          let f = flat_all k p low n.1 in
          absurd (true≢false (sym (ap (λ b. b && is_closed (inside p)) n.0 ∙ ap is_closed f.0) ∙ still))
      by false is (breaks nl flat ends to) rest =
          let high : k < level p = above (cases k) in
          let d : depth q - k ≡ deepen (depth p - k) t.kind = ap (λ x. depth x - k) to ∙ (let z : (level p + 0) - k ≡ depth p - k = omega (arith, flat) in z) ∙ sym (level_newline t.kind nl (depth p - k)) in
          put_front k p q t ts P leads.1 (leads.2, (λ i. subst (λ x. k < level x) (sym to) high)) leads.3 (λ x xs e i. first_begins (t.number + 1) (deepen (depth p - k) t.kind) ts x xs (leads.4 i) e)
          (subst (λ (n : ℕ). Segments k q (segments n ts)) d rest)
        where
          cases : (n : ℕ) → (k < level p) ⊎ (level p ≤ k)
          cases n = cases_lt k (level p)

          above : (k < level p) ⊎ (level p ≤ k) → k < level p
          above (inl h) = h
          above (inr h) =
              let z : depth p - k ≡ 0 = omega (arith, flat, h) in
              absurd (true≢false (sym (ap (λ b. b && is_closed (depth p - k)) nl ∙ ap is_closed z) ∙ is))
      by false is (moves still g) rest =
          let d : depth q - k ≡ deepen (depth p - k) t.kind = ap (λ (n : ℕ). n - k) g.deep ∙ less t.kind g in
          put_front k p q t ts P leads.1 (leads.2, (λ i. absurd (true≢false (sym i ∙ g.no_line)))) leads.3 (λ x xs e i. first_begins (t.number + 1) (deepen (depth p - k) t.kind) ts x xs (leads.4 i) e)
          (subst (λ (n : ℕ). Segments k q (segments n ts)) d rest)
        where
          less : (x : Kind) → Goes p t.kind q → deepen (depth p) t.kind - k ≡ deepen (depth p - k) t.kind
          less x g = omega (arith, g.deep, low, leads.2)

  -- ---- a block's body, in a segment

  pub record Bodied (k : ℕ) (p : Place) (ts : List Numbered) : Type 0 where
    pub inner : List Numbered
    pub close : Numbered
    pub brace : is kind.BraceClose close.kind ≡ true
    pub is : ts ≡ inner ++ close ∷ []
    pub end : Place
    pub leads : Leads all (Within (suc k)) p inner end
    pub stops : Stops (suc k) end

  -- at the end of a line the segment has no more tokens
  last : (k : ℕ) (ts : List Numbered) (end : Place) → Leads all (Inside k) (ended k) ts end → ts ≡ []
  last k [] end leads = refl
  last k (t ∷ ts) end leads = absurd (by (turns (ended k) t.kind leads.0 leads.1))
    where
      never : (q : Place) → goes (ended k) t.kind ≡ Some q → ⊥
      never q e = cc

      by : Turns (ended k) t.kind leads.0 → ⊥
      by (breaks nl flat ends to) = omega (arith, leads.2.1 (ap is_line to), ap level to)
      by (moves still g) = gone (is kind.Newline t.kind) refl
        where
          gone : (b : Bool) → is kind.Newline t.kind ≡ b → ⊥
          gone true nl = true≢false (sym (ap (λ b. b && true) nl) ∙ still)
          gone false nl = never leads.0 (sym (ap (λ b. cond (b && true) (Some (line k)) None) nl) ∙ leads.1)

  pub bodied : (k : ℕ) (p : Place) (ts : List Numbered) (end : Place) → suc k ≤ level p → Leads all (Inside k) p ts end → Stops k end → Bodied k p ts
  bodied k p [] end low leads stops = absurd (omega (arith, low, stops.1, ap depth leads))
  bodied k p (t ∷ ts) end low leads stops = by (turns p t.kind q leads.1) (cases_lt k (level q)) (λ h. bodied k q ts end h leads.5 stops)
    where
      q : Place
      q = leads.0

      more : suc k ≤ level q → Bodied k q ts → Bodied k p (t ∷ ts)
      more high b = record {
        inner = t ∷ b.inner;
        close = b.close;
        brace = b.brace;
        is = ap (λ r. t ∷ r) b.is;
        end = b.end;
        leads = (q, leads.1, high, leads.3, (λ i. front b (leads.4 i)), b.leads);
        stops = b.stops;
      }
        where
          front : (b : Bodied k q ts) → Begins (t.number + 1) ts → Begins (t.number + 1) b.inner
          front b h = begin b.inner (subst (λ r. Begins (t.number + 1) r) b.is h)
            where
              begin : (xs : List Numbered) → Begins (t.number + 1) (xs ++ b.close ∷ []) → Begins (t.number + 1) xs
              begin [] h = tt
              begin (x ∷ xs) h = h

      by : Turns p t.kind q → (k < level q) ⊎ (level q ≤ k) → (suc k ≤ level q → Bodied k q ts) → Bodied k p (t ∷ ts)
      by w (inl high) rest = more high (rest high)
      by (breaks nl flat ends to) (inr low') rest = absurd (omega (arith, low, low', ap level to))
      by (moves still g) (inr low') rest = left g.levels
        where
          left : (level p ≤ level q) ⊎ IsLeft p t.kind q → Bodied k p (t ∷ ts)
          left (inl h) = absurd (omega (arith, h, low, low'))
          left (inr l) =
              let same : l.below ≡ k = omega (arith, l.from, ap level l.to, leads.2.0, low') in
              let here : Leads all (Inside k) (ended k) ts end = subst (λ x. Leads all (Inside k) x ts end) (l.to ∙ ap ended same) leads.5 in
              record {
                inner = [];
                close = t;
                brace = l.brace;
                is = ap (λ r. t ∷ r) (last k ts end here);
                end = p;
                leads = refl;
                stops = (l.stops, omega (arith, l.from, l.flat, same));
              }

  -- ---- labels and names

  abbrev pub GoodLabel : Label → Type 0
  GoodLabel l = (l.first < l.last → IsAsWritten (between_quotes all l) (label_text all l)) × IsDisjoint all l.first

  abbrev pub Good : Item → Type 0
  Good (item.Label l) = GoodLabel l
  Good (item.Attribute level name first end) = IsDisjoint all name
  Good (item.Block level kind end) = Unit {0}

  abbrev pub AllGood : List Item → Type 0
  AllGood [] = Unit {0}
  AllGood (i ∷ is) = Good i × AllGood is

  pub good_both : (is js : List Item) → AllGood is → AllGood js → AllGood (is ++ js)
  good_both [] js h k = k
  good_both (i ∷ is) js h k = (h.0, good_both is js h.1 k)

  -- a place that continues among labels
  data LabelTurn (k : ℕ) (b : Bool) (t : Kind) (q : Place) : Type 0 where
    word : t ≡ kind.Ident → q ≡ labelled k false → LabelTurn k b t q
    quote : t ≡ kind.QuoteOpen → q ≡ at.quoted k → LabelTurn k b t q
    brace : t ≡ kind.BraceOpen → q ≡ started k → LabelTurn k b t q
    sign : b ≡ true → t ≡ kind.Assign → LabelTurn k b t q

  label_turn : (k : ℕ) (b : Bool) (t : Kind) (q : Place) → turn (labelled k b) t ≡ Some q → LabelTurn k b t q
  label_turn k b kind.Ident q e = let h : q ≡ labelled k false = cc in word refl h
  label_turn k b kind.QuoteOpen q e = let h : q ≡ at.quoted k = cc in quote refl h
  label_turn k b kind.BraceOpen q e = let h : q ≡ started k = cc in brace refl h
  label_turn k true kind.Assign q e = sign refl refl
  label_turn k false kind.Assign q e = let n : None ≡ Some q = e in absurd (cc)
  label_turn k b t q e = let n : None ≡ Some q = e in absurd (cc)

  quote_turn : (k : ℕ) (t : Kind) (q : Place) → turn (at.quoted k) t ≡ Some q → ((t ≡ kind.Lit) × (q ≡ at.written k)) ⊎ ((t ≡ kind.QuoteClose) × (q ≡ labelled k false))
  quote_turn k kind.Lit q e = let h : q ≡ at.written k = cc in inl (refl, h)
  quote_turn k kind.QuoteClose q e = let h : q ≡ labelled k false = cc in inr (refl, h)
  quote_turn k t q e = let n : None ≡ Some q = e in absurd (cc)

  literal_turn : (k : ℕ) (t : Kind) (q : Place) → turn (at.written k) t ≡ Some q → (t ≡ kind.QuoteClose) × (q ≡ labelled k false)
  literal_turn k kind.QuoteClose q e = let h : q ≡ labelled k false = cc in (refl, h)
  literal_turn k t q e = let n : None ≡ Some q = e in absurd (cc)

  -- a literal, or the closing quote, comes after a label's quote
  unequal : (n m : ℕ) → m ≡ n + 1 ⊎ m ≡ n + 2 → (n == m) ≡ false
  unequal n m (inl e) = grind (arith, nat_tests)
  unequal n m (inr e) = grind (arith, nat_tests)

  as_written : (n m : ℕ) (u : Numbered) (x : List Numbered) (text : List ℕ) → m ≡ n + 1 ⊎ m ≡ n + 2 → drop (n + 1) all ≡ u ∷ drop (n + 2) all → take (m - (n + 1)) (u ∷ drop (n + 2) all) ≡ x → first_literal (u ∷ drop (n + 2) all) ≡ text
      → IsAsWritten x text → IsAsWritten (between_quotes all (record { first = n; last = m })) (label_text all (record { first = n; last = m }))
  as_written n m u x text disjoint here taken first h =
      subst (λ y. IsAsWritten y (label_text all (record { first = n; last = m }))) (sym (ap (λ r. take (m - (n + 1)) r) here ∙ taken))
      (subst (λ y. IsAsWritten x y) (sym (ap (λ b. cond b (text_of all n) (first_literal (drop (n + 1) all))) (unequal n m disjoint) ∙ ap first_literal here ∙ first)) h)

  at_number : (u : Numbered) (n : ℕ) → u.number ≡ n + 1 → drop u.number all ≡ u ∷ drop (u.number + 1) all → drop (n + 1) all ≡ u ∷ drop (n + 2) all
  at_number u n e here = let more : u.number + 1 ≡ n + 2 = omega (arith, e) in ap (λ j. drop j all) (sym e) ∙ here ∙ ap (λ j. u ∷ drop j all) more

  -- no `=` comes before
  abbrev pub NoSign : List Numbered → Type 0
  NoSign [] = Unit {0}
  NoSign (t ∷ ts) = is kind.Assign t.kind ≡ false

  module _ (k : ℕ) (end : Place) (stops : Stops k end) where
    closed_label : (n : ℕ) (u : Numbered) (us : List Numbered) → u.kind ≡ kind.QuoteClose → u.number ≡ n + 1 → drop u.number all ≡ u ∷ drop (u.number + 1) all
        → IsAsWritten (between_quotes all (record { first = n; last = closing_quote (u ∷ us) })) (label_text all (record { first = n; last = closing_quote (u ∷ us) }))
    closed_label n u us close e here =
        let m : closing_quote (u ∷ us) ≡ n + 1 = ap (λ b. cond (is kind.QuoteClose b) u.number (closing_quote us)) close ∙ e in
        let z : closing_quote (u ∷ us) - (n + 1) ≡ 0 = omega (arith, m) in
        as_written n (closing_quote (u ∷ us)) u [] [] (inl m) (at_number u n e here) (ap (λ j. take j (u ∷ drop (n + 2) all)) z) (ap (λ b. cond (is kind.Lit b) u.text []) close) refl

    literal_label : (n : ℕ) (u v : Numbered) (vs : List Numbered) → u.kind ≡ kind.Lit → v.kind ≡ kind.QuoteClose → u.number ≡ n + 1 → v.number ≡ u.number + 1 → drop u.number all ≡ u ∷ drop (u.number + 1) all
        → IsAsWritten (between_quotes all (record { first = n; last = closing_quote (u ∷ v ∷ vs) })) (label_text all (record { first = n; last = closing_quote (u ∷ v ∷ vs) }))
    literal_label n u v vs lit close e f here =
        let m : closing_quote (u ∷ v ∷ vs) ≡ n + 2 = ap (λ b. cond (is kind.QuoteClose b) u.number (closing_quote (v ∷ vs))) lit ∙ ap (λ b. cond (is kind.QuoteClose b) v.number (closing_quote vs)) close ∙ (let w : v.number ≡ n + 2 = omega (arith, e, f) in w) in
        let z : closing_quote (u ∷ v ∷ vs) - (n + 1) ≡ 1 = omega (arith, m) in
        as_written n (closing_quote (u ∷ v ∷ vs)) u (u ∷ []) u.text (inr m) (at_number u n e here) (ap (λ j. take j (u ∷ drop (n + 2) all)) z ∙ ap (λ r. u ∷ r) (take_none (drop (n + 2) all))) (ap (λ b. cond (is kind.Lit b) u.text []) lit)
        (ap (is kind.Lit) lit, refl)
      where
        take_none : (xs : List Numbered) → take 0 xs ≡ []
        take_none [] = refl
        take_none (x ∷ xs) = refl

    good_quote : (n : ℕ) (ts : List Numbered) → Begins (n + 1) ts → Leads all (Inside k) (at.quoted k) ts end
        → IsAsWritten (between_quotes all (record { first = n; last = closing_quote ts })) (label_text all (record { first = n; last = closing_quote ts }))
    good_quote n [] next leads = absurd (true≢false (sym stops.0 ∙ ap may_stop (sym leads)))
    good_quote n (u ∷ us) next leads = by (quote_turn k u.kind leads.0 leads.1)
      where
        after : (vs : List Numbered) → u.kind ≡ kind.Lit → Begins (u.number + 1) vs → Leads all (Inside k) (at.written k) vs end
            → IsAsWritten (between_quotes all (record { first = n; last = closing_quote (u ∷ vs) })) (label_text all (record { first = n; last = closing_quote (u ∷ vs) }))
        after [] lit begin more = absurd (true≢false (sym stops.0 ∙ ap may_stop (sym more)))
        after (v ∷ vs) lit begin more = literal_label n u v vs lit (literal_turn k v.kind more.0 more.1).0 next begin leads.3.0

        by : ((u.kind ≡ kind.Lit) × (leads.0 ≡ at.written k)) ⊎ ((u.kind ≡ kind.QuoteClose) × (leads.0 ≡ labelled k false))
            → IsAsWritten (between_quotes all (record { first = n; last = closing_quote (u ∷ us) })) (label_text all (record { first = n; last = closing_quote (u ∷ us) }))
        by (inl h) = after us h.0 (leads.4 (ap in_quotes h.1)) (subst (λ x. Leads all (Inside k) x us end) h.1 leads.5)
        by (inr h) = closed_label n u us h.0 next leads.3.0

    -- the labels are good, and a body follows the first brace
    abbrev Labels : List Numbered → Type 0
    Labels ts = AllGood (labels ts) × ((after_brace ts ≡ []) ⊎ Leads all (Inside k) (started k) (after_brace ts) end)

    -- with a token in front that is no brace
    passed : (t : Numbered) (ts : List Numbered) (x : Kind) → t.kind ≡ x → is kind.BraceOpen x ≡ false → AllGood (label_at t.number x ts) → Labels ts → Labels (t ∷ ts)
    passed t ts x e plain good h =
        let L : labels (t ∷ ts) ≡ label_at t.number x ts ++ labels ts = ap (λ y. cond (is kind.BraceOpen y) [] (label_at t.number y ts ++ labels ts)) e ∙ ap (λ b. cond b [] (label_at t.number x ts ++ labels ts)) plain in
        let B : after_brace (t ∷ ts) ≡ after_brace ts = ap (λ y. cond (is kind.BraceOpen y) ts (after_brace ts)) e ∙ ap (λ b. cond b ts (after_brace ts)) plain in
        (subst AllGood (sym L) (good_both (label_at t.number x ts) (labels ts) good h.0), subst (λ r. (r ≡ []) ⊎ Leads all (Inside k) (started k) r end) (sym B) h.1)

    pub data Among (p : Place) (ts : List Numbered) : Type 0 where
      among : (b : Bool) → p ≡ labelled k b → (b ≡ true → NoSign ts) → Among p ts
      begun : p ≡ at.quoted k → Among p ts
      full : p ≡ at.written k → Among p ts

    unsigned : (ts : List Numbered) → false ≡ true → NoSign ts
    unsigned ts e = absurd (true≢false (sym e))

    pub good_labels : (p : Place) (ts : List Numbered) → Among p ts → Leads all (Inside k) p ts end → Labels ts
    good_labels p [] a leads = (tt, inl refl)
    good_labels p (t ∷ ts) a leads = by a (λ m. good_labels leads.0 ts m leads.5)
      where
        q : Place
        q = leads.0

        from : (r : Place) → p ≡ r → turn r t.kind ≡ Some q
        from r e = subst (λ x. turn x t.kind ≡ Some q) e leads.1

        named_by : (b : Bool) → p ≡ labelled k b → (is kind.Ident t.kind || is kind.QuoteOpen t.kind) ≡ true → IsDisjoint all t.number
        named_by b e h = leads.3.1 (ap (λ r. is_name r t.kind) e ∙ h)

        one : (b : Bool) → p ≡ labelled k b → (b ≡ true → is kind.Assign t.kind ≡ false) → (Among q ts → Labels ts) → LabelTurn k b t.kind q → Labels (t ∷ ts)
        one b e unsign rest (word x to) = passed t ts kind.Ident x refl (((λ h. absurd (omega (arith, h))), named_by b e (ap (λ k. is kind.Ident k || is kind.QuoteOpen k) x)), tt) (rest (among false to (unsigned ts)))
        one b e unsign rest (quote x to) =
            passed t ts kind.QuoteOpen x refl
            (((λ h. good_quote t.number ts (leads.4 (ap in_quotes to)) (subst (λ y. Leads all (Inside k) y ts end) to leads.5)), named_by b e (ap (λ k. is kind.Ident k || is kind.QuoteOpen k) x)), tt)
            (rest (begun to))
        one b e unsign rest (brace x to) =
            let L : labels (t ∷ ts) ≡ [] = ap (λ y. cond (is kind.BraceOpen y) [] (label_at t.number y ts ++ labels ts)) x in
            let B : after_brace (t ∷ ts) ≡ ts = ap (λ y. cond (is kind.BraceOpen y) ts (after_brace ts)) x in
            (subst AllGood (sym L) tt, inr (subst (λ r. Leads all (Inside k) (started k) r end) (sym B) (subst (λ y. Leads all (Inside k) y ts end) to leads.5)))
        one b e unsign rest (sign may x) = absurd (true≢false (sym (ap (is kind.Assign) x) ∙ unsign may))

        two : (Among q ts → Labels ts) → ((t.kind ≡ kind.Lit) × (q ≡ at.written k)) ⊎ ((t.kind ≡ kind.QuoteClose) × (q ≡ labelled k false)) → Labels (t ∷ ts)
        two rest (inl h) = passed t ts kind.Lit h.0 refl tt (rest (full h.1))
        two rest (inr h) = passed t ts kind.QuoteClose h.0 refl tt (rest (among false h.1 (unsigned ts)))

        by : Among p (t ∷ ts) → (Among q ts → Labels ts) → Labels (t ∷ ts)
        by (among b e unsign) rest = one b e unsign rest (label_turn k b t.kind q (from (labelled k b) e))
        by (begun e) rest = two rest (quote_turn k t.kind q (from (at.quoted k) e))
        by (full e) rest = let h = literal_turn k t.kind q (from (at.written k) e) in passed t ts kind.QuoteClose h.0 refl tt (rest (among false h.1 (unsigned ts)))

  -- ---- the body of a block is the contents of its braces

  front_of : (ts : List Numbered) → (front : List Numbered) × (ts ≡ front ++ after_brace ts)
  front_of [] = ([], refl)
  front_of (t ∷ ts) = by (is kind.BraceOpen t.kind) (front_of ts)
    where
      by : (b : Bool) → (front : List Numbered) × (ts ≡ front ++ after_brace ts) → (front : List Numbered) × (t ∷ ts ≡ front ++ cond b ts (after_brace ts))
      by true h = (t ∷ [], refl)
      by false h = (t ∷ h.0, ap (λ r. t ∷ r) h.1)

  end_is : (xs : List Numbered) (t : Numbered) → end_of (xs ++ t ∷ []) ≡ t.number + 1
  end_is [] t = refl
  end_is (x ∷ []) t = refl
  end_is (x ∷ y ∷ xs) t = end_is (y ∷ xs) t

  one_brace : (t : Numbered) → is kind.BraceClose t.kind ≡ true → filter (λ u. is kind.BraceClose u.kind) (t ∷ []) ≡ t ∷ []
  one_brace t e = ap (λ b. cond b (t ∷ []) []) e

  rises_back : (from to : ℕ) (xs ys : List Numbered) → Rises from (xs ++ ys) to → (mid : ℕ) × Rises mid ys to
  rises_back from to [] ys h = (from, h)
  rises_back from to (x ∷ xs) ys h = rises_back (x.number + 1) to xs ys h.1

  -- the tokens before the last are kept, and the last isn't
  before_last : (from to e : ℕ) (xs : List Numbered) (t : Numbered) → Rises from (xs ++ t ∷ []) to → e ≡ t.number + 1 → (filter (λ u. nat_lt (u.number + 1) e) (xs ++ t ∷ []) ≡ xs) × (from ≤ t.number)
  before_last from to e [] t h is = (ap (λ b. cond b (t ∷ []) []) (not_less t.number e is), h.0)
    where
      not_less : (n m : ℕ) → m ≡ n + 1 → nat_lt (n + 1) m ≡ false
      not_less n m h = le-ltb (n + 1) m (omega (arith, h))
  before_last from to e (x ∷ xs) t h is =
      let more = before_last (x.number + 1) to e xs t h.1 is in
      (ap (λ b. cond b (x ∷ filter (λ u. nat_lt (u.number + 1) e) (xs ++ t ∷ [])) (filter (λ u. nat_lt (u.number + 1) e) (xs ++ t ∷ []))) (lt-ltb (x.number + 1) e (omega (arith, is, more.1))) ∙ ap (λ r. x ∷ r) more.0, omega (arith, h.0, more.1))

  body_is : (from to : ℕ) (ts inner : List Numbered) (t : Numbered) → Rises from ts to → after_brace ts ≡ inner ++ t ∷ [] → is kind.BraceClose t.kind ≡ true → (body ts ≡ inner) × ((mid : ℕ) × Rises mid (inner ++ t ∷ []) to)
  body_is from to ts inner t rises this closes =
      let f = front_of ts in
      let whole : ts ≡ f.0 ++ (inner ++ t ∷ []) = f.1 ∙ ap (λ r. f.0 ++ r) this in
      let back = rises_back from to f.0 (inner ++ t ∷ []) (subst (λ r. Rises from r to) whole rises) in
      let braces = (λ (u : Numbered). is kind.BraceClose u.kind) in
      let e : block_end ts ≡ t.number + 1 =
      ap (λ r. end_of (filter braces r)) whole
      ∙ ap end_of (filter-append braces f.0 (inner ++ t ∷ []) ∙ ap (λ r. filter braces f.0 ++ r) (filter-append braces inner (t ∷ []) ∙ ap (λ r. filter braces inner ++ r) (one_brace t closes)) ∙ sym (append_assoc (filter braces f.0) (filter braces inner) (t ∷ [])))
      ∙ end_is (filter braces f.0 ++ filter braces inner) t
      in
      (ap (λ r. filter (λ u. nat_lt (u.number + 1) (block_end ts)) r) this ∙ (before_last back.0 to (block_end ts) inner t back.1 e).0, back)

  rises_front : (from to : ℕ) (xs : List Numbered) (t : Numbered) → Rises from (xs ++ t ∷ []) to → Rises from xs to
  rises_front from to [] t h = rises_wide from to (t ∷ []) h
  rises_front from to (x ∷ xs) t h = (h.0, rises_front (x.number + 1) to xs t h.1)

  -- ---- item by item

  abbrev pub Begin : ℕ → Place → Type 0
  Begin k p = (p ≡ line k) ⊎ ((j : ℕ) × (k ≡ suc j) × (p ≡ started j))

  abbrev pub InnerGood : (List Numbered → List Item) → Type 0
  InnerGood inner = (k : ℕ) (p : Place) (from to : ℕ) (ts : List Numbered) → Begin k p → Rises from ts to → Segments k p (segments 0 ts) → AllGood (inner ts)

  module _ (inner : List Numbered → List Item) (good : InnerGood inner) (lev : ℕ) where
    nothing_good : AllGood (inner [])
    nothing_good = good 0 (line 0) 0 0 [] (inl refl) (omega arith) ((line 0, refl, (refl, omega arith)), tt)

    block_good : (k from to : ℕ) (name : Numbered) (ts : List Numbered) (end : Place) → Rises from ts to → NoSign ts → Leads all (Inside k) (labelled k true) ts end → Stops k end → AllGood (block inner lev name ts)
    block_good k from to name ts end rises unsign leads stops = (tt, good_both (labels ts) (inner (body ts)) l.0 (by l.1))
      where
        l : AllGood (labels ts) × ((after_brace ts ≡ []) ⊎ Leads all (Inside k) (started k) (after_brace ts) end)
        l = good_labels k end stops (labelled k true) ts (among true refl (λ i. unsign)) leads

        by : (after_brace ts ≡ []) ⊎ Leads all (Inside k) (started k) (after_brace ts) end → AllGood (inner (body ts))
        by (inl none) = subst (λ r. AllGood (inner r)) (sym (ap (λ r. filter (λ u. nat_lt (u.number + 1) (block_end ts)) r) none)) nothing_good
        by (inr more) =
            let b = bodied k (started k) (after_brace ts) end (omega arith) more stops in
            let is = body_is from to ts b.inner b.close rises b.is b.brace in
            let z : depth (started k) - suc k ≡ 0 = omega arith in
            let ps : Segments (suc k) (started k) (segments 0 b.inner) = subst (λ (n : ℕ). Segments (suc k) (started k) (segments n b.inner)) z (cut (suc k) (started k) b.inner b.end (omega arith) b.leads b.stops) in
            subst (λ r. AllGood (inner r)) (sym is.0) (good (suc k) (started k) is.1.0 to b.inner (inr (k, refl, refl)) (rises_front is.1.0 to b.inner b.close is.1.1) ps)

    -- the tokens after the first of a segment
    first_turn : (k : ℕ) (p q : Place) (t : Kind) → Begin k p → turn p t ≡ Some q → Inside k q → (q ≡ labelled k true) ⊎ ((j : ℕ) × (q ≡ named j))
    first_turn k p q t (inl e) turned ok = by k t q (subst (λ x. turn x t ≡ Some q) e turned) ok
      where
        by : (k : ℕ) (t : Kind) (q : Place) → turn (line k) t ≡ Some q → Inside k q → (q ≡ labelled k true) ⊎ ((j : ℕ) × (q ≡ named j))
        by k kind.Ident q e ok = let h : q ≡ labelled k true = cc in inl h
        by k kind.Newline q e ok = let h : q ≡ line k = cc in absurd (omega (arith, ok.1 (ap is_line h), ap level h))
        by zero kind.BraceClose q e ok = let n : None ≡ Some q = e in absurd (cc)
        by (suc k) kind.BraceClose q e ok = let h : q ≡ ended k = cc in absurd (omega (arith, ok.0, ap level h))
        by k t q e ok = let n : None ≡ Some q = e in absurd (cc)
    first_turn k p q t (inr e) turned ok = by e.0 t q (subst (λ x. turn x t ≡ Some q) e.2 turned) (subst (λ (x : ℕ). Inside x q) e.1 ok)
      where
        by : (j : ℕ) (t : Kind) (q : Place) → turn (started j) t ≡ Some q → Inside (suc j) q → (q ≡ labelled k true) ⊎ ((j : ℕ) × (q ≡ named j))
        by j kind.Ident q e ok = let h : q ≡ named j = cc in inr (j, h)
        by j kind.Newline q e ok = let h : q ≡ line (suc j) = cc in absurd (omega (arith, ok.1 (ap is_line h), ap level h))
        by j kind.BraceClose q e ok = let h : q ≡ ended j = cc in absurd (omega (arith, ok.0, ap level h))
        by j t q e ok = let n : None ≡ Some q = e in absurd (cc)

    first_names : (k : ℕ) (p q : Place) (t : Kind) → Begin k p → turn p t ≡ Some q → Inside k q → is_name p t ≡ true
    first_names k p q t (inl e) turned ok = ap (λ x. is_name x t) e ∙ by k t q (subst (λ x. turn x t ≡ Some q) e turned) ok
      where
        by : (k : ℕ) (t : Kind) (q : Place) → turn (line k) t ≡ Some q → Inside k q → is kind.Ident t ≡ true
        by k kind.Ident q e ok = refl
        by k kind.Newline q e ok = let h : q ≡ line k = cc in absurd (omega (arith, ok.1 (ap is_line h), ap level h))
        by zero kind.BraceClose q e ok = let n : None ≡ Some q = e in absurd (cc)
        by (suc k) kind.BraceClose q e ok = let h : q ≡ ended k = cc in absurd (omega (arith, ok.0, ap level h))
        by k t q e ok = let n : None ≡ Some q = e in absurd (cc)
    first_names k p q t (inr e) turned ok = ap (λ x. is_name x t) e.2 ∙ by e.0 t q (subst (λ x. turn x t ≡ Some q) e.2 turned) (subst (λ (x : ℕ). Inside x q) e.1 ok)
      where
        by : (j : ℕ) (t : Kind) (q : Place) → turn (started j) t ≡ Some q → Inside (suc j) q → is kind.Ident t ≡ true
        by j kind.Ident q e ok = refl
        by j kind.Newline q e ok = let h : q ≡ line (suc j) = cc in absurd (omega (arith, ok.1 (ap is_line h), ap level h))
        by j kind.BraceClose q e ok = let h : q ≡ ended j = cc in absurd (omega (arith, ok.0, ap level h))
        by j t q e ok = let n : None ≡ Some q = e in absurd (cc)

    named_turn : (j : ℕ) (t : Kind) (q : Place) → turn (named j) t ≡ Some q → is kind.Assign t ≡ true
    named_turn j kind.Assign q e = refl
    named_turn j t q e = let n : None ≡ Some q = e in absurd (cc)

    item_good : (k : ℕ) (p : Place) (from to : ℕ) (ts : List Numbered) → Begin k p → Rises from ts to → Segment k p ts → AllGood (item_of inner lev ts)
    item_good k p from to [] begin rises segment = tt
    item_good k p from to (name ∷ []) begin rises segment = (tt, nothing_good)
    item_good k p from to (name ∷ second ∷ rest) begin rises segment = by (is kind.Assign second.kind) refl
      where
        leads : Leads all (Inside k) p (name ∷ second ∷ rest) segment.0
        leads = segment.1

        q : Place
        q = leads.0

        after : is kind.Assign second.kind ≡ false → (q ≡ labelled k true) ⊎ ((j : ℕ) × (q ≡ named j)) → AllGood (block inner lev name (second ∷ rest))
        after unsign (inl e) = block_good k (name.number + 1) to name (second ∷ rest) segment.0 rises.1 unsign (subst (λ x. Leads all (Inside k) x (second ∷ rest) segment.0) e leads.5) segment.2
        after unsign (inr e) = absurd (true≢false (sym (named_turn e.0 second.kind leads.5.0 (subst (λ x. turn x second.kind ≡ Some leads.5.0) e.1 leads.5.1)) ∙ unsign))

        by : (b : Bool) → is kind.Assign second.kind ≡ b → AllGood (cond b (item.Attribute lev name.number (second.number + 1) (end_of (second ∷ rest)) ∷ []) (block inner lev name (second ∷ rest)))
        by true e = (leads.3.1 (first_names k p q name.kind begin leads.1 leads.2), tt)
        by false e = after e (first_turn k p q name.kind begin leads.1 leads.2)

    lines_good : (k from to : ℕ) (ps : List (List Numbered)) → AllRise from ps to → LineSegments k ps → AllGood (flat_map (item_of inner lev) ps)
    lines_good k from to [] rises h = tt
    lines_good k from to (x ∷ xs) rises h = good_both (item_of inner lev x) (flat_map (item_of inner lev) xs) (item_good k (line k) from rises.0 x (inl refl) rises.1 h.0) (lines_good k rises.0 to xs rises.2 h.1)

    all_good : (k : ℕ) (p : Place) (from to : ℕ) (ps : List (List Numbered)) → Begin k p → AllRise from ps to → Segments k p ps → AllGood (flat_map (item_of inner lev) ps)
    all_good k p from to [] begin rises h = tt
    all_good k p from to (x ∷ xs) begin rises h = good_both (item_of inner lev x) (flat_map (item_of inner lev) xs) (item_good k p from rises.0 x begin rises.1 h.0) (lines_good k rises.0 to xs rises.2 h.1)

  pub items_good : (n lev : ℕ) → InnerGood (items n lev)
  items_good zero lev k p from to ts begin rises h = tt
  items_good (suc n) lev k p from to ts begin rises h =
      all_good (items n (lev + 1)) (items_good n (lev + 1)) lev k p from to (segments 0 ts) begin (segments_rise 0 from to ts rises) h
