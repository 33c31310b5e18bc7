-- The references of a file: `var . n`, `local . n` and `data . t . n`, where n and t are identifiers and the first word
-- isn't directly after a dot, in the tokens without comments, blanks and newlines, heredocs included. A reference is
-- identified by its text, without anything around the dots. A self-reference is left out: `var . n` inside the block of
-- a variable that is declared as n.
use Rattle.std.specs.Prelude.{ℕ, ◌++◌, ◌&&◌, Bool, false, List, [], ◌∷◌, Option, Some, None, codes, nat_le, nat_lt, filter, map, drop, if◌then◌else◌, option_map, option_and_then}
use Rattle.std.specs.List.{list_any}
use Rattle.std.specs.Str.{bytes_eq}
use Rattle.hcl_tokens.specs.Kinds.{is}
use Rattle.hcl_tokens.specs.declared.token.Kind.TheVariants as kind
use Rattle.hcl_grammar.specs.Numbered.{Numbered, significant}
use Rattle.hcl_grammar.specs.Items.{items_of}
use Rattle.hcl_grammar.specs.declared.item.Item.{Item}
use Rattle.hcl_grammar.specs.declared.item.Item.TheVariants as item
use Rattle.tf_facts.specs.Declarations.{is_kind, of_item}
use Rattle.tf_facts.specs.declared.declaration_kind.DeclarationKind.TheVariants as declares

abbrev pub variable_reference : List ℕ → List ℕ
variable_reference n = codes "var." ++ n

abbrev pub local_reference : List ℕ → List ℕ
local_reference n = codes "local." ++ n

abbrev pub data_reference : List ℕ → List ℕ → List ℕ
data_reference t n = codes "data." ++ (t ++ (codes "." ++ n))

-- the identifier in the dot and the name with which these tokens begin
abbrev pub name_after : List Numbered → Option Numbered
name_after (d ∷ n ∷ rest) = if is kind.Dot d.kind && is kind.Ident n.kind then Some n else None
name_after _ = None

abbrev pub data_of : List ℕ → Option Numbered → Option (List ℕ)
data_of t = option_map (λ n. data_reference t n.text)

-- the reference of a first word and a name after a dot; `rest` follows
abbrev pub reference_of : List ℕ → List ℕ → List Numbered → Option (List ℕ)
reference_of word n rest =
    if bytes_eq word (codes "var") then Some (variable_reference n)
    else if bytes_eq word (codes "local") then Some (local_reference n)
    else if bytes_eq word (codes "data") then data_of n (name_after rest)
    else None

abbrev pub by_name : List ℕ → Option Numbered → List Numbered → Option (List ℕ)
by_name word name rest = option_and_then (λ n. reference_of word n.text rest) name

-- the reference with which these tokens begin
abbrev pub reference_at : List Numbered → Option (List ℕ)
reference_at [] = None
reference_at (w ∷ ts) =
    if is kind.Ident w.kind then by_name w.text (name_after ts) (drop 2 ts) else None

-- the block of a variable: its name, its first token and the one after its last
pub record VariableSpan : Type 0 where
  pub name : List ℕ
  pub first : ℕ
  pub end : ℕ

abbrev pub last_of : List (List ℕ) → List ℕ
last_of [] = []
last_of (x ∷ []) = x
last_of (x ∷ y ∷ xs) = last_of (y ∷ xs)

-- the variable that an item declares; `rest` follows it in the list of items
abbrev pub variable_blocks_of_item : List Numbered → Item → List Item → List VariableSpan
variable_blocks_of_item ts (item.Block level token end) rest =
    map (λ d. record { name = last_of d.names; first = token; end = end })
    (filter (λ d. is_kind declares.Variable d.kind) (of_item ts (item.Block level token end) rest))
variable_blocks_of_item ts _ rest = []

abbrev pub variable_blocks_of_items : List Numbered → List Item → List VariableSpan
variable_blocks_of_items ts [] = []
variable_blocks_of_items ts (i ∷ rest) =
    variable_blocks_of_item ts i rest ++ variable_blocks_of_items ts rest

abbrev pub variable_blocks : List Numbered → List VariableSpan
variable_blocks ts = variable_blocks_of_items ts (items_of ts)

-- the token stands in the block of the variable to which this text refers
abbrev pub is_self_reference : List VariableSpan → ℕ → List ℕ → Bool
is_self_reference own number text =
    list_any (λ o. nat_le o.first number && nat_lt number o.end
    && bytes_eq (variable_reference o.name) text) own

abbrev pub unless_self_reference : List VariableSpan → ℕ → Option (List ℕ) → List (List ℕ)
unless_self_reference own number None = []
unless_self_reference own number (Some text) =
    if is_self_reference own number text then [] else text ∷ []

-- the references of significant tokens, if a dot precedes them or not
abbrev pub references_from : List VariableSpan → Bool → List Numbered → List (List ℕ)
references_from own after_dot [] = []
references_from own after_dot (t ∷ ts) =
    (if after_dot then [] else unless_self_reference own t.number (reference_at (t ∷ ts)))
    ++ references_from own (is kind.Dot t.kind) ts

-- THE REFERENCES of numbered tokens, in order, repeats included
abbrev pub references : List Numbered → List (List ℕ)
references ts = references_from (variable_blocks ts) false (significant ts)
