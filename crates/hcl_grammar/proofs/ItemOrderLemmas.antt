-- Items begin in the order of their tokens.
use Rattle.std.proofs.Common.{◌≡◌, subst, ℕ, suc, zero, ◌+◌, ◌≤◌, ◌<◌, Bool, true, false, cond, not, List, [], ◌∷◌, ◌++◌, length, arith}
use Rattle.std.specs.Prelude.{◌&&◌, filter, nat_lt}
use Rattle.std.specs.List.{flat_map}
use Rattle.hcl_tokens.specs.Kinds.{is}
use Rattle.hcl_tokens.specs.declared.token.Kind.TheVariants.{Assign, BraceClose, BraceOpen, Ident, Newline, QuoteOpen}
use Rattle.hcl_tokens.specs.Lexemes.{Lexeme}
use Rattle.hcl_tokens.specs.declared.token.Kind.{Kind}
use Rattle.hcl_grammar.specs.Numbered.{Numbered, number_tokens, numbered_from, without_comments, is_comment, end_of}
use Rattle.hcl_grammar.specs.Items.{deepen, is_closed, onto, segments, after_brace, block_end, body, block, item_of, items, label_at, labels, outline, closing_quote}
use Rattle.hcl_grammar.specs.ItemOrder.{Climbs, Spans, lead, past}
use Rattle.hcl_grammar.specs.declared.item.Item.{Item}
use Rattle.hcl_grammar.specs.declared.item.Item.TheVariants as item

-- the tokens are in order; their numbers are at least `from` and below `to`
abbrev pub Rises : ℕ → List Numbered → ℕ → Type 0
Rises from [] to = from ≤ to
Rises from (t ∷ ts) to = (from ≤ t.number) × Rises (t.number + 1) ts to

pub rises_wide : (from to : ℕ) (ts : List Numbered) → Rises from ts to → from ≤ to
rises_wide from to [] h = h
rises_wide from to (t ∷ ts) h = omega (arith, h.0, rises_wide (t.number + 1) to ts h.1)

rises_from : (from later to : ℕ) (ts : List Numbered) → from ≤ later → Rises later ts to → Rises from ts to
rises_from from later to [] h r = omega (arith, h, r)
rises_from from later to (t ∷ ts) h r = (omega (arith, h, r.0), r.1)

rises_to : (from to more : ℕ) (ts : List Numbered) → to ≤ more → Rises from ts to → Rises from ts more
rises_to from to more [] h r = omega (arith, h, r)
rises_to from to more (t ∷ ts) h r = (r.0, rises_to (t.number + 1) to more ts h r.1)

pub rises_filter : (p : Numbered → Bool) (from to : ℕ) (ts : List Numbered) → Rises from ts to → Rises from (filter p ts) to
rises_filter p from to [] h = h
rises_filter p from to (t ∷ ts) h = by (p t) (rises_filter p (t.number + 1) to ts h.1)
  where
    by : (b : Bool) → Rises (t.number + 1) (filter p ts) to → Rises from (cond b (t ∷ filter p ts) (filter p ts)) to
    by true r = (h.0, r)
    by false r = rises_from from (t.number + 1) to (filter p ts) (omega (arith, h.0)) r

pub rises_numbered : (n : ℕ) (xs : List Lexeme) → Rises n (numbered_from n xs) (n + length xs)
rises_numbered n [] = omega arith
rises_numbered n (x ∷ xs) = (omega arith, let e : n + 1 + length xs ≡ n + length (x ∷ xs) = omega arith in subst (λ (to : ℕ). Rises (n + 1) (numbered_from (n + 1) xs) to) e (rises_numbered (n + 1) xs))

pub spans_lead : (from to : ℕ) (i : Item) → Spans from i to → from ≤ lead i
spans_lead from to (item.Attribute level name first end) h = h.0
spans_lead from to (item.Block level kind end) h = h.0
spans_lead from to (item.Label l) h = h.0

pub spans_past : (from to : ℕ) (i : Item) → Spans from i to → lead i < past i
spans_past from to (item.Attribute level name first end) h = omega (arith, h.1, h.2)
spans_past from to (item.Block level kind end) h = omega arith
spans_past from to (item.Label l) h = omega arith

spans_from : (from later to : ℕ) (i : Item) → from ≤ later → Spans later i to → Spans from i to
spans_from from later to (item.Attribute level name first end) h s = (omega (arith, h, s.0), s.1, s.2, s.3)
spans_from from later to (item.Block level kind end) h s = (omega (arith, h, s.0), s.1)
spans_from from later to (item.Label l) h s = (omega (arith, h, s.0), s.1)

spans_to : (from to more : ℕ) (i : Item) → to ≤ more → Spans from i to → Spans from i more
spans_to from to more (item.Attribute level name first end) h s = (s.0, s.1, s.2, omega (arith, s.3, h))
spans_to from to more (item.Block level kind end) h s = (s.0, omega (arith, s.1, h))
spans_to from to more (item.Label l) h s = (s.0, omega (arith, s.1, h))

pub climbs_wide : (from to : ℕ) (is : List Item) → Climbs from is to → from ≤ to
climbs_wide from to [] h = h
climbs_wide from to (i ∷ is) h = omega (arith, spans_lead from to i h.0, spans_past from to i h.0, climbs_wide (past i) to is h.1)

climbs_from : (from later to : ℕ) (is : List Item) → from ≤ later → Climbs later is to → Climbs from is to
climbs_from from later to [] h r = omega (arith, h, r)
climbs_from from later to (i ∷ is) h r = (spans_from from later to i h r.0, r.1)

climbs_to : (from to more : ℕ) (is : List Item) → to ≤ more → Climbs from is to → Climbs from is more
climbs_to from to more [] h r = omega (arith, h, r)
climbs_to from to more (i ∷ is) h r = (spans_to from to more i h r.0, climbs_to (past i) to more is h r.1)

climbs_both : (from mid to : ℕ) (is js : List Item) → Climbs from is mid → Climbs mid js to → Climbs from (is ++ js) to
climbs_both from mid to [] js h k = climbs_from from mid to js h k
climbs_both from mid to (i ∷ is) js h k = (spans_to from mid to i (climbs_wide mid to js k) h.0, climbs_both (past i) mid to is js h.1 k)

-- the segments follow one another; their tokens' numbers are at least `from` and below `to`
abbrev pub AllRise : ℕ → List (List Numbered) → ℕ → Type 0
AllRise from [] to = from ≤ to
AllRise from (p ∷ ps) to = (mid : ℕ) × Rises from p mid × AllRise mid ps to

rises_onto : (from : ℕ) (t : Numbered) (ps : List (List Numbered)) (to : ℕ) → from ≤ t.number → AllRise (t.number + 1) ps to → AllRise from (onto t ps) to
rises_onto from t [] to h r = (to, (h, r), omega arith)
rises_onto from t (p ∷ ps) to h r = (r.0, (h, r.1), r.2)

all_from : (from later to : ℕ) (ps : List (List Numbered)) → from ≤ later → AllRise later ps to → AllRise from ps to
all_from from later to [] h r = omega (arith, h, r)
all_from from later to (p ∷ ps) h r = (r.0, rises_from from later r.0 p h r.1, r.2)

pub segments_rise : (depth from to : ℕ) (ts : List Numbered) → Rises from ts to → AllRise from (segments depth ts) to
segments_rise depth from to [] h = (to, h, omega arith)
segments_rise depth from to (t ∷ ts) h = by (is Newline t.kind && is_closed depth) (segments_rise (deepen depth t.kind) (t.number + 1) to ts h.1)
  where
    by : (b : Bool) → AllRise (t.number + 1) (segments (deepen depth t.kind) ts) to → AllRise from (cond b ([] ∷ segments (deepen depth t.kind) ts) (onto t (segments (deepen depth t.kind) ts))) to
    by true r = (from, omega arith, all_from from (t.number + 1) to (segments (deepen depth t.kind) ts) (omega (arith, h.0)) r)
    by false r = rises_onto from t (segments (deepen depth t.kind) ts) to h.0 r

pub end_within : (from to : ℕ) (ts : List Numbered) → Rises from ts to → end_of ts ≤ to
end_within from to [] h = omega arith
end_within from to (t ∷ []) h = h.1
end_within from to (t ∷ u ∷ ts) h = end_within (t.number + 1) to (u ∷ ts) h.1

end_after : (to : ℕ) (t : Numbered) (ts : List Numbered) → Rises (t.number + 1) ts to → t.number + 1 ≤ end_of (t ∷ ts)
end_after to t [] h = omega arith
end_after to t (u ∷ us) h = omega (arith, h.0, end_after to u us h.1)

-- the labels before the first opening brace, and the tokens after it
label_climbs : (n : ℕ) (k : Kind) (rest : List Numbered) → Climbs n (label_at n k rest) (n + 1)
label_climbs n k rest = by (is Ident k) (is QuoteOpen k)
  where
    by : (a b : Bool) → Climbs n (cond a (item.Label (record { first = n; last = n }) ∷ []) (cond b (item.Label (record { first = n; last = closing_quote rest }) ∷ []) [])) (n + 1)
    by true b = ((omega arith, omega arith), omega arith)
    by false true = ((omega arith, omega arith), omega arith)
    by false false = omega arith

labels_climb : (from to : ℕ) (ts : List Numbered) → Rises from ts to → (mid : ℕ) × Climbs from (labels ts) mid × Rises mid (after_brace ts) to
labels_climb from to [] h = (to, h, omega arith)
labels_climb from to (t ∷ ts) h = by (is BraceOpen t.kind) (labels_climb (t.number + 1) to ts h.1)
  where
    by : (b : Bool) → ((mid : ℕ) × Climbs (t.number + 1) (labels ts) mid × Rises mid (after_brace ts) to)
        → (mid : ℕ) × Climbs from (cond b [] (label_at t.number t.kind ts ++ labels ts)) mid × Rises mid (cond b ts (after_brace ts)) to
    by true r = (t.number + 1, omega (arith, h.0), h.1)
    by false r = (r.0, climbs_from from t.number r.0 (label_at t.number t.kind ts ++ labels ts) h.0 (climbs_both t.number (t.number + 1) r.0 (label_at t.number t.kind ts) (labels ts) (label_climbs t.number t.kind ts) r.1), r.2)

-- the items of every body are in order
abbrev Climbing : (List Numbered → List Item) → Type 0
Climbing inner = (from to : ℕ) (ts : List Numbered) → Rises from ts to → Climbs from (inner ts) to

module _ (inner : List Numbered → List Item) (climb : Climbing inner) (level : ℕ) where
  block_climbs : (from to : ℕ) (kind : Numbered) (rest : List Numbered) → from ≤ kind.number → Rises (kind.number + 1) rest to → Climbs from (block inner level kind rest) to
  block_climbs from to kind rest h r =
      let l : (mid : ℕ) × Climbs (kind.number + 1) (labels rest) mid × Rises mid (after_brace rest) to = labels_climb (kind.number + 1) to rest r in (
        (h, end_within (kind.number + 1) to (filter (λ t. is BraceClose t.kind) rest) (rises_filter (λ t. is BraceClose t.kind) (kind.number + 1) to rest r)),
        climbs_both (kind.number + 1) l.0 to (labels rest) (inner (body rest)) l.1 (climb l.0 to (body rest) (rises_filter (λ t. nat_lt (t.number + 1) (block_end rest)) l.0 to (after_brace rest) l.2)),
      )

  item_climbs : (from to : ℕ) (segment : List Numbered) → Rises from segment to → Climbs from (item_of inner level segment) to
  item_climbs from to [] h = h
  item_climbs from to (kind ∷ []) h = block_climbs from to kind [] h.0 h.1
  item_climbs from to (name ∷ second ∷ rest) h = by (is Assign second.kind)
    where
      by : (b : Bool) → Climbs from (cond b (item.Attribute level name.number (second.number + 1) (end_of (second ∷ rest)) ∷ []) (block inner level name (second ∷ rest))) to
      by true =
          let last : end_of (second ∷ rest) ≤ to = end_within (name.number + 1) to (second ∷ rest) h.1 in
          ((h.0, omega (arith, h.1.0), end_after to second rest h.1.1, last), last)
      by false = block_climbs from to name (second ∷ rest) h.0 h.1

  all_climb : (from to : ℕ) (ps : List (List Numbered)) → AllRise from ps to → Climbs from (flat_map (item_of inner level) ps) to
  all_climb from to [] h = h
  all_climb from to (p ∷ ps) h = climbs_both from h.0 to (item_of inner level p) (flat_map (item_of inner level) ps) (item_climbs from h.0 p h.1) (all_climb h.0 to ps h.2)

pub items_climb : (n level : ℕ) → Climbing (items n level)
items_climb zero level from to ts h = rises_wide from to ts h
items_climb (suc n) level from to ts h = all_climb (items n (level + 1)) (items_climb n (level + 1)) level from to (segments 0 ts) (segments_rise 0 from to ts h)

-- THE LAW
pub outline_climbs : (tokens : List Lexeme) → Climbs 0 (outline tokens) (length tokens)
outline_climbs tokens =
    let e : 0 + length tokens ≡ length tokens = omega arith in
    let r : Rises 0 (number_tokens tokens) (length tokens) = subst (λ (to : ℕ). Rises 0 (number_tokens tokens) to) e (rises_numbered 0 tokens) in
    items_climb (length (number_tokens tokens)) 0 0 (length tokens) (without_comments (number_tokens tokens)) (rises_filter (λ t. not (is_comment t.kind)) 0 (length tokens) (number_tokens tokens) r)
