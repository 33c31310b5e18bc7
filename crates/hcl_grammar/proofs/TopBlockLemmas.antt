-- The blocks at the top follow one another.
use Rattle.std.proofs.Common.{MatchBool, ◌≡◌, ap, sym, subst, ℕ, suc, zero, ◌+◌, ◌≤◌, max, Bool, true, false, cond, not, List, [], ◌∷◌, ◌++◌, length, arith}
use Rattle.std.specs.Prelude.{filter}
use Rattle.std.specs.List.{flat_map}
use Rattle.hcl_tokens.specs.Kinds.{is}
use Rattle.hcl_tokens.specs.declared.token.Kind.TheVariants.{Assign, BraceClose, BraceOpen, Ident, QuoteOpen}
use Rattle.hcl_tokens.specs.Lexemes.{Lexeme}
use Rattle.hcl_tokens.specs.declared.token.Kind.{Kind}
use Rattle.hcl_grammar.specs.Numbered.{Numbered, number_tokens, without_comments, is_comment, end_of}
use Rattle.hcl_grammar.specs.Items.{is_closed, segments, block_end, body, block, item_of, items, label_at, labels, outline, closing_quote}
use Rattle.hcl_grammar.specs.ItemOrder.{TopsDisjoint}
use Rattle.hcl_grammar.specs.declared.item.Item.{Item}
use Rattle.hcl_grammar.specs.declared.item.Item.TheVariants as item
use Rattle.hcl_grammar.proofs.ItemOrderLemmas.{Rises, rises_wide, rises_filter, rises_numbered, AllRise, segments_rise, end_within}

tops_from : (from later to : ℕ) (is : List Item) → from ≤ later → TopsDisjoint later is to → TopsDisjoint from is to
tops_from from later to [] h r = omega (arith, h, r)
tops_from from later to (item.Attribute level name first end ∷ is) h r = tops_from from later to is h r
tops_from from later to (item.Label l ∷ is) h r = tops_from from later to is h r
tops_from from later to (item.Block level kind end ∷ is) h r = by (is_closed level) (λ q. tops_from from later to is h q) r
  where
    by : (b : Bool) → (TopsDisjoint later is to → TopsDisjoint from is to) → MatchBool b ((later ≤ kind) × TopsDisjoint (max kind end) is to) (TopsDisjoint later is to) → MatchBool b ((from ≤ kind) × TopsDisjoint (max kind end) is to) (TopsDisjoint from is to)
    by true more r = (omega (arith, h, r.0), r.1)
    by false more r = more r

tops_both : (from mid to : ℕ) (is js : List Item) → TopsDisjoint from is mid → TopsDisjoint mid js to → TopsDisjoint from (is ++ js) to
tops_both from mid to [] js h k = tops_from from mid to js h k
tops_both from mid to (item.Attribute level name first end ∷ is) js h k = tops_both from mid to is js h k
tops_both from mid to (item.Label l ∷ is) js h k = tops_both from mid to is js h k
tops_both from mid to (item.Block level kind end ∷ is) js h k = by (is_closed level) (λ n q. tops_both n mid to is js q k) h
  where
    by : (b : Bool) → ((n : ℕ) → TopsDisjoint n is mid → TopsDisjoint n (is ++ js) to) → MatchBool b ((from ≤ kind) × TopsDisjoint (max kind end) is mid) (TopsDisjoint from is mid) → MatchBool b ((from ≤ kind) × TopsDisjoint (max kind end) (is ++ js) to) (TopsDisjoint from (is ++ js) to)
    by true more r = (r.0, more (max kind end) r.1)
    by false more r = more from r

-- labels, and items at deeper levels, are no top-level blocks
abbrev Deep : List Item → Type 0
Deep is = (n : ℕ) → TopsDisjoint n is n

deep_both : (is js : List Item) → Deep is → Deep js → Deep (is ++ js)
deep_both is js h k n = tops_both n n n is js (h n) (k n)

deep_wide : (from to : ℕ) (is : List Item) → from ≤ to → Deep is → TopsDisjoint from is to
deep_wide from to is h d = tops_from from to to is h (d to)

deep_label : (n : ℕ) (k : Kind) (rest : List Numbered) → Deep (label_at n k rest)
deep_label n k rest m = by (is Ident k) (is QuoteOpen k)
  where
    by : (a b : Bool) → TopsDisjoint m (cond a (item.Label (record { first = n; last = n }) ∷ []) (cond b (item.Label (record { first = n; last = closing_quote rest }) ∷ []) [])) m
    by true b = omega arith
    by false true = omega arith
    by false false = omega arith

deep_labels : (ts : List Numbered) → Deep (labels ts)
deep_labels [] m = omega arith
deep_labels (t ∷ ts) m = by (is BraceOpen t.kind) (deep_labels ts)
  where
    by : (b : Bool) → Deep (labels ts) → TopsDisjoint m (cond b [] (label_at t.number t.kind ts ++ labels ts)) m
    by true rest = omega arith
    by false rest = deep_both (label_at t.number t.kind ts) (labels ts) (deep_label t.number t.kind ts) rest m

abbrev AllDeep : (List Numbered → List Item) → Type 0
AllDeep inner = (ts : List Numbered) → Deep (inner ts)

module _ (inner : List Numbered → List Item) (deep : AllDeep inner) (level : ℕ) where
  -- at a level below the top
  module _ (below : is_closed level ≡ false) where
    block_deep : (kind : Numbered) (rest : List Numbered) → Deep (block inner level kind rest)
    block_deep kind rest m =
        let more : TopsDisjoint m (labels rest ++ inner (body rest)) m = deep_both (labels rest) (inner (body rest)) (deep_labels rest) (deep (body rest)) m in
        subst (λ (b : Bool). MatchBool b ((m ≤ kind.number) × TopsDisjoint (max kind.number (block_end rest)) (labels rest ++ inner (body rest)) m) (TopsDisjoint m (labels rest ++ inner (body rest)) m)) (sym below) more

    item_deep : (segment : List Numbered) → Deep (item_of inner level segment)
    item_deep [] m = omega arith
    item_deep (kind ∷ []) m = block_deep kind [] m
    item_deep (name ∷ second ∷ rest) m = by (is Assign second.kind)
      where
        by : (b : Bool) → TopsDisjoint m (cond b (item.Attribute level name.number (second.number + 1) (end_of (second ∷ rest)) ∷ []) (block inner level name (second ∷ rest))) m
        by true = omega arith
        by false = block_deep name (second ∷ rest) m

    all_deep : (ps : List (List Numbered)) → Deep (flat_map (item_of inner level) ps)
    all_deep [] m = omega arith
    all_deep (p ∷ ps) m = deep_both (item_of inner level p) (flat_map (item_of inner level) ps) (item_deep p) (all_deep ps) m

  -- at the top
  block_tops : (from to : ℕ) (kind : Numbered) (rest : List Numbered) → from ≤ kind.number → Rises (kind.number + 1) rest to → TopsDisjoint from (block inner level kind rest) to
  block_tops from to kind rest h r = by (is_closed level)
    where
      within : block_end rest ≤ to
      within = end_within (kind.number + 1) to (filter (λ t. is BraceClose t.kind) rest) (rises_filter (λ t. is BraceClose t.kind) (kind.number + 1) to rest r)

      wide : kind.number + 1 ≤ to
      wide = rises_wide (kind.number + 1) to rest r

      more : (n : ℕ) → n ≤ to → TopsDisjoint n (labels rest ++ inner (body rest)) to
      more n k = deep_wide n to (labels rest ++ inner (body rest)) k (deep_both (labels rest) (inner (body rest)) (deep_labels rest) (deep (body rest)))

      by : (b : Bool) → MatchBool b ((from ≤ kind.number) × TopsDisjoint (max kind.number (block_end rest)) (labels rest ++ inner (body rest)) to) (TopsDisjoint from (labels rest ++ inner (body rest)) to)
      by true = (h, more (max kind.number (block_end rest)) (omega (arith, within, wide)))
      by false = more from (omega (arith, h, wide))

  item_tops : (from to : ℕ) (segment : List Numbered) → Rises from segment to → TopsDisjoint from (item_of inner level segment) to
  item_tops from to [] h = h
  item_tops from to (kind ∷ []) h = block_tops from to kind [] h.0 h.1
  item_tops from to (name ∷ second ∷ rest) h = by (is Assign second.kind)
    where
      by : (b : Bool) → TopsDisjoint from (cond b (item.Attribute level name.number (second.number + 1) (end_of (second ∷ rest)) ∷ []) (block inner level name (second ∷ rest))) to
      by true = rises_wide from to (name ∷ second ∷ rest) h
      by false = block_tops from to name (second ∷ rest) h.0 h.1

  all_tops : (from to : ℕ) (ps : List (List Numbered)) → AllRise from ps to → TopsDisjoint from (flat_map (item_of inner level) ps) to
  all_tops from to [] h = h
  all_tops from to (p ∷ ps) h = tops_both from h.0 to (item_of inner level p) (flat_map (item_of inner level) ps) (item_tops from h.0 p h.1) (all_tops h.0 to ps h.2)

one_deeper : (level : ℕ) → is_closed (level + 1) ≡ false
one_deeper level = let s : level + 1 ≡ suc level = omega arith in ap is_closed s

items_deep : (n level : ℕ) → is_closed level ≡ false → AllDeep (items n level)
items_deep zero level below ts m = omega arith
items_deep (suc n) level below ts m = all_deep (items n (level + 1)) (items_deep n (level + 1) (one_deeper level)) level below (segments 0 ts) m

items_tops : (n level from to : ℕ) (ts : List Numbered) → Rises from ts to → TopsDisjoint from (items n level ts) to
items_tops zero level from to ts h = rises_wide from to ts h
items_tops (suc n) level from to ts h = all_tops (items n (level + 1)) (items_deep n (level + 1) (one_deeper level)) level from to (segments 0 ts) (segments_rise 0 from to ts h)

-- THE LAW
pub tops_disjoint : (tokens : List Lexeme) → TopsDisjoint 0 (outline tokens) (length tokens)
tops_disjoint tokens =
    let e : 0 + length tokens ≡ length tokens = omega arith in
    let r : Rises 0 (number_tokens tokens) (length tokens) = subst (λ (to : ℕ). Rises 0 (number_tokens tokens) to) e (rises_numbered 0 tokens) in
    items_tops (length (number_tokens tokens)) 0 0 (length tokens) (without_comments (number_tokens tokens)) (rises_filter (λ t. not (is_comment t.kind)) 0 (length tokens) (number_tokens tokens) r)
