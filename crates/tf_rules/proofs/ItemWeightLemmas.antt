-- Items cost at most as much as all tokens weigh, if tokens of its own weigh as much as each item costs.
use Rattle.std.proofs.Common.{◌≡◌, ℕ, suc, zero, ◌+◌, ◌≤◌, Bool, true, false, cond, List, [], ◌∷◌, ◌++◌, arith, refl}
use Rattle.std.specs.Prelude.{◌&&◌, filter, nat_lt}
use Rattle.std.specs.List.{flat_map}
use Rattle.hcl_tokens.specs.Kinds.{is}
use Rattle.hcl_tokens.specs.declared.token.Kind.TheVariants.{Assign, BraceOpen, Newline}
use Rattle.hcl_grammar.specs.Items.{after_brace, block, block_end, body, deepen, is_closed, item_of, items, labels, label_at, onto, segments}
use Rattle.hcl_grammar.specs.Numbered.{Numbered, end_of}
use Rattle.hcl_grammar.specs.declared.item.Item.{Item}
use Rattle.hcl_grammar.specs.declared.item.Item.TheVariants as item

abbrev pub bit : Bool → ℕ
bit true = 1
bit false = 0

abbrev pub weight : (Numbered → ℕ) → List Numbered → ℕ
weight weigh [] = 0
weight weigh (t ∷ ts) = weigh t + weight weigh ts

pub weight_filter : (weigh : Numbered → ℕ) (q : Numbered → Bool) (ts : List Numbered) → weight weigh (filter q ts) ≤ weight weigh ts
weight_filter weigh q [] = omega arith
weight_filter weigh q (t ∷ ts) = by (q t) (weight_filter weigh q ts)
  where
    by : (b : Bool) → weight weigh (filter q ts) ≤ weight weigh ts → weight weigh (cond b (t ∷ filter q ts) (filter q ts)) ≤ weigh t + weight weigh ts
    by true h = omega (arith, h)
    by false h = omega (arith, h)

-- a label costs at most the weight of its first token, an attribute that of its name and its `=`, and a block nothing
pub record IsCounted (cost : List Item → ℕ) (weigh : Numbered → ℕ) : Type 0 where
  pub none : cost [] ≡ 0
  pub both : (is js : List Item) → cost (is ++ js) ≡ cost is + cost js
  pub block : (level kind end : ℕ) → cost (item.Block level kind end ∷ []) ≡ 0
  pub attribute : (level end : ℕ) (name second : Numbered) → is Assign second.kind ≡ true → cost (item.Attribute level name.number (second.number + 1) end ∷ []) ≤ weigh name + weigh second
  pub label : (t : Numbered) (ts : List Numbered) → cost (label_at t.number t.kind ts) ≤ weigh t

module _ (cost : List Item → ℕ) (weigh : Numbered → ℕ) (counted : IsCounted cost weigh) where
  labels_cost : (ts : List Numbered) → cost (labels ts) + weight weigh (after_brace ts) ≤ weight weigh ts
  labels_cost [] = omega (arith, counted.none)
  labels_cost (t ∷ ts) = by (is BraceOpen t.kind) (labels_cost ts)
    where
      by : (b : Bool) → cost (labels ts) + weight weigh (after_brace ts) ≤ weight weigh ts
          → cost (cond b [] (label_at t.number t.kind ts ++ labels ts)) + weight weigh (cond b ts (after_brace ts)) ≤ weigh t + weight weigh ts
      by true h = omega (arith, counted.none)
      by false h = omega (arith, h, counted.label t ts, counted.both (label_at t.number t.kind ts) (labels ts))

  abbrev all_weigh : List (List Numbered) → ℕ
  all_weigh [] = 0
  all_weigh (p ∷ ps) = weight weigh p + all_weigh ps

  onto_weighs : (t : Numbered) (ps : List (List Numbered)) → all_weigh (onto t ps) ≡ weigh t + all_weigh ps
  onto_weighs t [] = omega arith
  onto_weighs t (p ∷ ps) = omega arith

  segments_weigh : (depth : ℕ) (ts : List Numbered) → all_weigh (segments depth ts) ≤ weight weigh ts
  segments_weigh depth [] = omega arith
  segments_weigh depth (t ∷ ts) = by (is Newline t.kind && is_closed depth) (segments_weigh (deepen depth t.kind) ts)
    where
      by : (b : Bool) → all_weigh (segments (deepen depth t.kind) ts) ≤ weight weigh ts
          → all_weigh (cond b ([] ∷ segments (deepen depth t.kind) ts) (onto t (segments (deepen depth t.kind) ts))) ≤ weigh t + weight weigh ts
      by true h = omega (arith, h)
      by false h = omega (arith, h, onto_weighs t (segments (deepen depth t.kind) ts))

  abbrev Costs : (List Numbered → List Item) → Type 0
  Costs inner = (ts : List Numbered) → cost (inner ts) ≤ weight weigh ts

  module _ (inner : List Numbered → List Item) (costs : Costs inner) (level : ℕ) where
    block_costs : (kind : Numbered) (rest : List Numbered) → cost (block inner level kind rest) ≤ weight weigh rest
    block_costs kind rest =
        omega (
          arith,
          counted.both (item.Block level kind.number (block_end rest) ∷ []) (labels rest ++ inner (body rest)),
          counted.block level kind.number (block_end rest),
          counted.both (labels rest) (inner (body rest)),
          labels_cost rest,
          costs (body rest),
          weight_filter weigh (λ t. nat_lt (t.number + 1) (block_end rest)) (after_brace rest),
        )

    item_costs : (segment : List Numbered) → cost (item_of inner level segment) ≤ weight weigh segment
    item_costs [] = omega (arith, counted.none)
    item_costs (kind ∷ []) = omega (arith, block_costs kind [])
    item_costs (name ∷ second ∷ rest) = by (is Assign second.kind) refl (block_costs name (second ∷ rest))
      where
        by : (b : Bool) → is Assign second.kind ≡ b → cost (block inner level name (second ∷ rest)) ≤ weigh second + weight weigh rest
            → cost (cond b (item.Attribute level name.number (second.number + 1) (end_of (second ∷ rest)) ∷ []) (block inner level name (second ∷ rest))) ≤ weigh name + (weigh second + weight weigh rest)
        by true e h = omega (arith, counted.attribute level (end_of (second ∷ rest)) name second e)
        by false e h = omega (arith, h)

    all_cost : (ps : List (List Numbered)) → cost (flat_map (item_of inner level) ps) ≤ all_weigh ps
    all_cost [] = omega (arith, counted.none)
    all_cost (p ∷ ps) = omega (arith, item_costs p, all_cost ps, counted.both (item_of inner level p) (flat_map (item_of inner level) ps))

  pub items_weigh : (n level : ℕ) → Costs (items n level)
  items_weigh zero level ts = omega (arith, counted.none)
  items_weigh (suc n) level ts = omega (arith, all_cost (items n (level + 1)) (items_weigh n (level + 1)) level (segments 0 ts), segments_weigh 0 ts)
