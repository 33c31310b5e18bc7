-- A body is shorter than its segment, so more levels than tokens change nothing.
use Rattle.std.proofs.Common.{◌≡◌, ◌∙◌, ap, ap₂, sym, refl, ℕ, suc, zero, ◌+◌, ◌≤◌, ◌<◌, Bool, true, false, cond, List, [], ◌∷◌, ◌++◌, length, arith}
use Rattle.std.specs.Prelude.{◌&&◌, filter, nat_lt}
use Rattle.std.specs.List.{flat_map}
use Rattle.hcl_tokens.specs.Kinds.{is}
use Rattle.hcl_tokens.specs.declared.token.Kind.TheVariants.{Assign, BraceOpen, Newline}
use Rattle.hcl_grammar.specs.Numbered.{Numbered, end_of}
use Rattle.hcl_grammar.specs.Items.{deepen, is_closed, onto, segments, after_brace, block_end, body, block, item_of, items, labels}
use Rattle.hcl_syntax.specs.Inner.Segments.{items_at}
use Rattle.hcl_grammar.specs.declared.item.Item.{Item}
use Rattle.hcl_grammar.specs.declared.item.Item.TheVariants as item

-- each segment is no longer than a bound
abbrev pub AllShort : ℕ → List (List Numbered) → Type 0
AllShort n [] = Unit {0}
AllShort n (p ∷ ps) = (length p ≤ n) × AllShort n ps

short_more : (n : ℕ) (ps : List (List Numbered)) → AllShort n ps → AllShort (suc n) ps
short_more n [] h = tt
short_more n (p ∷ ps) h = (omega (arith, h.0), short_more n ps h.1)

short_onto : (n : ℕ) (t : Numbered) (ps : List (List Numbered)) → AllShort n ps → AllShort (suc n) (onto t ps)
short_onto n t [] h = (omega arith, tt)
short_onto n t (p ∷ ps) h = (omega (arith, h.0), short_more n ps h.1)

pub segments_short : (depth : ℕ) (ts : List Numbered) → AllShort (length ts) (segments depth ts)
segments_short depth [] = (omega arith, tt)
segments_short depth (t ∷ ts) = by (is Newline t.kind && is_closed depth) (segments_short (deepen depth t.kind) ts)
  where
    by : (b : Bool) → AllShort (length ts) (segments (deepen depth t.kind) ts)
        → AllShort (length (t ∷ ts)) (cond b ([] ∷ segments (deepen depth t.kind) ts) (onto t (segments (deepen depth t.kind) ts)))
    by true h = (omega arith, short_more (length ts) (segments (deepen depth t.kind) ts) h)
    by false h = short_onto (length ts) t (segments (deepen depth t.kind) ts) h

after_short : (ts : List Numbered) → length (after_brace ts) ≤ length ts
after_short [] = omega arith
after_short (t ∷ ts) = by (is BraceOpen t.kind) (after_short ts)
  where
    by : (b : Bool) → length (after_brace ts) ≤ length ts → length (cond b ts (after_brace ts)) ≤ length (t ∷ ts)
    by true h = omega arith
    by false h = omega (arith, h)

pub filter_short : {X : Type 0} (p : X → Bool) (xs : List X) → length (filter p xs) ≤ length xs
filter_short p [] = omega arith
filter_short p (x ∷ xs) = by (p x) (filter_short p xs)
  where
    by : (b : Bool) → length (filter p xs) ≤ length xs → length (cond b (x ∷ filter p xs) (filter p xs)) ≤ length (x ∷ xs)
    by true h = omega (arith, h)
    by false h = omega (arith, h)

pub body_short : (ts : List Numbered) → length (body ts) ≤ length ts
body_short ts = omega (arith, filter_short (λ t. nat_lt (t.number + 1) (block_end ts)) (after_brace ts), after_short ts)

-- functions that agree on everything shorter than a segment give the same item of it
module _ (f g : List Numbered → List Item) (level : ℕ) where
  same_block : (kind : Numbered) (rest : List Numbered) → f (body rest) ≡ g (body rest) → block f level kind rest ≡ block g level kind rest
  same_block kind rest e = ap (λ inner. item.Block level kind.number (block_end rest) ∷ (labels rest ++ inner)) e

  same_item : (segment : List Numbered) → ((ts : List Numbered) → length ts < length segment → f ts ≡ g ts) → item_of f level segment ≡ item_of g level segment
  same_item [] h = refl
  same_item (kind ∷ []) h = same_block kind [] (h (body []) (omega arith))
  same_item (name ∷ second ∷ rest) h =
      ap (λ other. cond (is Assign second.kind) (item.Attribute level name.number (second.number + 1) (end_of (second ∷ rest)) ∷ []) other)
      (same_block name (second ∷ rest) (h (body (second ∷ rest)) (omega (arith, body_short (second ∷ rest)))))

  same_items : (n : ℕ) → ((ts : List Numbered) → length ts < n → f ts ≡ g ts) → (ps : List (List Numbered)) → AllShort n ps → flat_map (item_of f level) ps ≡ flat_map (item_of g level) ps
  same_items n h [] short = refl
  same_items n h (p ∷ ps) short = ap₂ (λ x y. x ++ y) (same_item p (λ ts less. h ts (omega (arith, less, short.0)))) (same_items n h ps short.1)

-- no token, no item
pub items_none : (n level : ℕ) → items n level [] ≡ []
items_none zero level = refl
items_none (suc n) level = refl

-- THE LAW: from the number of tokens on, more levels change nothing
pub items_more : (n m level : ℕ) (ts : List Numbered) → length ts ≤ n → length ts ≤ m → items n level ts ≡ items m level ts
items_more zero m level [] h k = sym (items_none m level)
items_more zero m level (t ∷ ts) h k = absurd (omega (arith, h))
items_more (suc n) zero level [] h k = refl
items_more (suc n) zero level (t ∷ ts) h k = absurd (omega (arith, k))
items_more (suc n) (suc m) level ts h k =
    same_items (items n (level + 1)) (items m (level + 1)) level (length ts)
    (λ us less. items_more n m (level + 1) us (omega (arith, less, h)) (omega (arith, less, k)))
    (segments 0 ts) (segments_short 0 ts)

-- the items, segment by segment
pub items_at_segments : (level : ℕ) (ts : List Numbered) → items_at level ts ≡ flat_map (item_of (items_at (level + 1)) level) (segments 0 ts)
items_at_segments level ts =
    items_more (length ts) (suc (length ts)) level ts (omega arith) (omega arith)
    ∙ same_items (items (length ts) (level + 1)) (items_at (level + 1)) level (length ts) (λ us less. items_more (length ts) (length us) (level + 1) us (omega (arith, less)) (omega arith)) (segments 0 ts) (segments_short 0 ts)
