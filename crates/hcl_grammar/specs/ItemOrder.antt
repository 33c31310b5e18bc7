-- Items in the order of their tokens, for the laws about outlines. Our own definitions.
use Rattle.std.specs.Prelude.{◌≤◌, ◌<◌, ◌+◌, ℕ, max, MatchBool, List, [], ◌∷◌}
use Rattle.hcl_grammar.specs.Items.{is_closed}
use Rattle.hcl_grammar.specs.declared.item.Item.{Item}
use Rattle.hcl_grammar.specs.declared.item.Item.TheVariants as item

-- the token with which an item begins
abbrev pub lead : Item → ℕ
lead (item.Attribute level name first end) = name
lead (item.Block level kind end) = kind
lead (item.Label l) = l.first

-- where the next item may begin: after the value of an attribute, or after the first token of a block or a label
abbrev pub past : Item → ℕ
past (item.Attribute level name first end) = end
past (item.Block level kind end) = kind + 1
past (item.Label l) = l.first + 1

-- the tokens that an item names are in order; their numbers are at least `from` and below `to`
abbrev pub Spans : ℕ → Item → ℕ → Type 0
Spans from (item.Attribute level name first end) to =
    (from ≤ name) × (name < first) × (first ≤ end) × (end ≤ to)
Spans from (item.Block level kind end) to = (from ≤ kind) × (end ≤ to)
Spans from (item.Label l) to = (from ≤ l.first) × (l.first < to)

-- each item begins after the one before; all their tokens' numbers are at least `from` and below `to`
abbrev pub Climbs : ℕ → List Item → ℕ → Type 0
Climbs from [] to = from ≤ to
Climbs from (i ∷ is) to = Spans from i to × Climbs (past i) is to

-- each top-level block begins after the end of the one before; the first begins at `from` or later, and all end at `to`
-- or before
abbrev pub TopsDisjoint : ℕ → List Item → ℕ → Type 0
TopsDisjoint from [] to = from ≤ to
TopsDisjoint from (item.Block level kind end ∷ is) to = MatchBool (is_closed level)
    ((from ≤ kind) × TopsDisjoint (max kind end) is to) (TopsDisjoint from is to)
TopsDisjoint from (_ ∷ is) to = TopsDisjoint from is to
