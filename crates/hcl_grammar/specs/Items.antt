-- The items of a file (HCL Native Syntax Specification, "Structural Elements"): attributes `name = value`, and blocks
-- with labels, whose bodies contain items one level deeper. Comments are left out, and the tokens are split into
-- segments at the newlines outside all openers; each segment with a token is one item.
use Rattle.std.specs.Prelude.{ℕ, suc, zero, ◌+◌, ◌-◌, ◌&&◌, Bool, true, false, List, [], ◌∷◌, ◌++◌, length, filter, nat_lt, if◌then◌else◌}
use Rattle.std.specs.List.{flat_map}
use Rattle.hcl_tokens.specs.Kinds.{is}
use Rattle.hcl_tokens.specs.declared.token.Kind.TheVariants.{Assign, BraceClose, BraceOpen, Ident, Newline, QuoteClose, QuoteOpen}
use Rattle.hcl_tokens.specs.Lexemes.{Lexeme}
use Rattle.hcl_tokens.specs.declared.token.Kind.{Kind}
use Rattle.hcl_tokens.specs.Balanced.{opener_count, closer_count}
use Rattle.hcl_grammar.specs.Numbered.{Numbered, number_tokens, without_comments, end_of}
use Rattle.hcl_grammar.specs.declared.item.Item.{Item}
use Rattle.hcl_grammar.specs.declared.item.Item.TheVariants as item

-- how many openers are open after a token
abbrev pub deepen : ℕ → Kind → ℕ
deepen depth k = depth + opener_count k - closer_count k

-- no opener is open
abbrev pub is_closed : ℕ → Bool
is_closed zero = true
is_closed (suc depth) = false

-- the token at the front of the first segment
abbrev pub onto : Numbered → List (List Numbered) → List (List Numbered)
onto t [] = (t ∷ []) ∷ []
onto t (segment ∷ rest) = (t ∷ segment) ∷ rest

-- the tokens split at the newlines outside all openers, where `depth` openers are open at first
abbrev pub segments : ℕ → List Numbered → List (List Numbered)
segments depth [] = [] ∷ []
segments depth (t ∷ ts) =
    let rest = segments (deepen depth t.kind) ts in
    if is Newline t.kind && is_closed depth then [] ∷ rest else onto t rest

-- the number of the first closing quote
abbrev pub closing_quote : List Numbered → ℕ
closing_quote [] = 0
closing_quote (t ∷ ts) = if is QuoteClose t.kind then t.number else closing_quote ts

-- the label that begins with a token: an identifier, or a quote
abbrev pub label_at : ℕ → Kind → List Numbered → List Item
label_at number kind rest =
    if is Ident kind then item.Label (record { first = number; last = number }) ∷ []
    else if is QuoteOpen kind
    then item.Label (record { first = number; last = closing_quote rest }) ∷ []
    else []

-- the labels before the first opening brace
abbrev pub labels : List Numbered → List Item
labels [] = []
labels (t ∷ ts) = if is BraceOpen t.kind then [] else label_at t.number t.kind ts ++ labels ts

-- the tokens after the first opening brace
abbrev pub after_brace : List Numbered → List Numbered
after_brace [] = []
after_brace (t ∷ ts) = if is BraceOpen t.kind then ts else after_brace ts

-- one past the number of the last closing brace
abbrev pub block_end : List Numbered → ℕ
block_end ts = end_of (filter (λ t. is BraceClose t.kind) ts)

-- the tokens between the first opening brace and the last closing one
abbrev pub body : List Numbered → List Numbered
body ts = filter (λ t. nat_lt (t.number + 1) (block_end ts)) (after_brace ts)

-- a block with its labels and the items of its body; `rest` follows its kind
abbrev pub block : (List Numbered → List Item) → ℕ → Numbered → List Numbered → List Item
block inner level kind rest =
    item.Block level kind.number (block_end rest) ∷ (labels rest ++ inner (body rest))

-- the item of a segment: an attribute if the second token is `=`
abbrev pub item_of : (List Numbered → List Item) → ℕ → List Numbered → List Item
item_of inner level [] = []
item_of inner level (kind ∷ []) = block inner level kind []
item_of inner level (name ∷ second ∷ rest) =
    if is Assign second.kind
    then item.Attribute level name.number (second.number + 1) (end_of (second ∷ rest)) ∷ []
    else block inner level name (second ∷ rest)

-- the items at a level, and those in their bodies down to a number of levels; a body is shorter than its segment, so
-- the number of tokens is enough
abbrev pub items : ℕ → ℕ → List Numbered → List Item
items zero level ts = []
items (suc deeper) level ts = flat_map (item_of (items deeper (level + 1)) level) (segments 0 ts)

-- THE ITEMS of numbered tokens, in order, each block followed by its labels and then by the items of its body
abbrev pub items_of : List Numbered → List Item
items_of ts = items (length ts) 0 (without_comments ts)

-- the items of a file
abbrev pub outline : List Lexeme → List Item
outline tokens = items_of (number_tokens tokens)
