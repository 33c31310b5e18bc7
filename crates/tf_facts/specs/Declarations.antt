-- The declarations of a file: its top-level blocks `variable`, `output` and `module` with one label, `resource` and
-- `data` with two, and the attributes of its top-level blocks `locals` without labels. Our own choice, after
-- Terraform's documentation of its blocks.
use Rattle.std.specs.Prelude.{ℕ, ◌-◌, ◌==◌, ◌&&◌, Bool, true, false, not, List, [], ◌∷◌, ◌++◌, length, filter, map, take, drop, codes, Option, Some, None, if◌then◌else◌, find, option_map, option_and_then}
use Rattle.std.specs.List.{list_any}
use Rattle.std.specs.Str.{bytes_eq}
use Rattle.hcl_grammar.specs.Numbered.{Numbered, is_comment}
use Rattle.hcl_grammar.specs.Items.{items_of, is_closed}
use Rattle.hcl_tokens.specs.Kinds.{is}
use Rattle.hcl_tokens.specs.declared.token.Kind.TheVariants.{Lit, Newline, QuoteClose, QuoteOpen}
use Rattle.hcl_grammar.specs.Labels.{text_of, label_text}
use Rattle.hcl_grammar.specs.declared.item.Item.{Item}
use Rattle.hcl_grammar.specs.declared.item.Item.TheVariants as item
use Rattle.tf_facts.specs.Sources.{Source, source_of}
use Rattle.tf_facts.specs.declared.declaration_kind.DeclarationKind.{DeclarationKind}
use Rattle.tf_facts.specs.declared.declaration_kind.DeclarationKind.TheVariants as declares
use Rattle.tf_facts.specs.contracts.declaration_kind.DeclarationKindPartialEq.TheImpl as derived

-- the source of a module, and the place of its opening quote
pub record SourceAt (P : Type 0) : Type 0 where
  pub source : Source
  pub at : P

-- A declaration, by the places of tokens: their numbers in a file, or their places in a module.
pub record Declaration (P : Type 0) : Type 0 where
  pub kind : DeclarationKind
  pub names : List (List ℕ)  -- the texts of the labels, or the name of the attribute
  pub at : P  -- the token of the block's kind, or of the attribute's name
  pub described : Bool  -- there is an attribute `description`
  pub typed : Bool
  pub versioned : Bool
  pub source : Option (SourceAt P)  -- the source of a module, if it is a plain text

-- ---- the items after a block in the list of items

abbrev pub is_inside : Item → Bool
is_inside (item.Attribute level name first end) = not (is_closed level)
is_inside (item.Block level kind end) = not (is_closed level)
is_inside (item.Label l) = true

pub record Attribute : Type 0 where
  pub name : List ℕ
  pub token : ℕ
  pub first : ℕ
  pub end : ℕ

abbrev pub attribute : List Numbered → Item → Option Attribute
attribute ts (item.Attribute level name first end) =
    if level == 1
    then Some (record { name = text_of ts name; token = name; first = first; end = end }) else None
attribute ts _ = None

-- the labels of a block; `rest` follows it
abbrev pub labels_in : List Numbered → List Item → List (List ℕ)
labels_in ts (item.Label l ∷ rest) = label_text ts l ∷ labels_in ts rest
labels_in ts _ = []

abbrev pub with_attribute : Option Attribute → List Attribute → List Attribute
with_attribute None attributes = attributes
with_attribute (Some a) attributes = a ∷ attributes

-- the attributes directly in a block's body
abbrev pub attributes_in : List Numbered → List Item → List Attribute
attributes_in ts [] = []
attributes_in ts (i ∷ rest) =
    let more =
    attributes_in ts rest in if is_inside i then with_attribute (attribute ts i) more else []

abbrev pub has : List ℕ → List Attribute → Bool
has name attributes = list_any (λ a. bytes_eq a.name name) attributes

-- ---- the source of a module

pub record PlainText : Type 0 where
  pub quote : ℕ
  pub text : List ℕ

-- a quote with at most one literal
abbrev pub plain_text : List Numbered → Option PlainText
plain_text (q ∷ c ∷ []) =
    if is QuoteOpen q.kind && is QuoteClose c.kind
    then Some (record { quote = q.number; text = [] }) else None
plain_text (q ∷ l ∷ c ∷ []) =
    if is QuoteOpen q.kind && is Lit l.kind && is QuoteClose c.kind
    then Some (record { quote = q.number; text = l.text }) else None
plain_text _ = None

-- the tokens of an attribute's value without comments and newlines
abbrev pub value_of : List Numbered → Attribute → List Numbered
value_of ts a =
    filter (λ t. not (is_comment t.kind)
    && not (is Newline t.kind)) (take (a.end - a.first) (drop a.first ts))

abbrev pub source_of_plain_text : Option PlainText → Option (SourceAt ℕ)
source_of_plain_text = option_map (λ p. record { source = source_of p.text; at = p.quote })

abbrev pub source_of_attribute : List Numbered → Option Attribute → Option (SourceAt ℕ)
source_of_attribute ts = option_and_then (λ a. source_of_plain_text (plain_text (value_of ts a)))

-- the source of a module, from the first attribute `source`
abbrev pub module_source : List Numbered → List Attribute → Option (SourceAt ℕ)
module_source ts attributes =
    source_of_attribute ts (find (λ a. bytes_eq a.name (codes "source")) attributes)

-- ---- declarations

-- what a block with this word as its kind declares, and how many labels it must have
pub record Declarer : Type 0 where
  pub kind : DeclarationKind
  pub labels : ℕ

abbrev pub declarer : List ℕ → Option Declarer
declarer word =
    if bytes_eq word (codes "variable") then Some (record { kind = declares.Variable; labels = 1 })
    else if bytes_eq word (codes "output") then Some (record { kind = declares.Output; labels = 1 })
    else if bytes_eq word (codes "module") then Some (record { kind = declares.Module; labels = 1 })
    else if bytes_eq word (codes "resource")
    then Some (record { kind = declares.Resource; labels = 2 })
    else if bytes_eq word (codes "data") then Some (record { kind = declares.Data; labels = 2 })
    else None

-- whether the second is the first, by the equality that is derived for kinds
abbrev pub is_kind : DeclarationKind → DeclarationKind → Bool
is_kind = (derived.ghosts).eq

abbrev pub by_declarer : List Numbered → ℕ → List (List ℕ) → List Attribute → Option Declarer
    → List (Declaration ℕ)
by_declarer ts token names attributes None = []
by_declarer ts token names attributes (Some d) =
    if length names == d.labels then
    record {
      kind = d.kind;
      names = names;
      at = token;
      described = has (codes "description") attributes;
      typed = has (codes "type") attributes;
      versioned = has (codes "version") attributes;
      source = if is_kind declares.Module d.kind then module_source ts attributes else None;
    } ∷ []
    else []

abbrev pub of_local : Attribute → Declaration ℕ
of_local a =
    record {
      kind = declares.Local;
      names = a.name ∷ [];
      at = a.token;
      described = false;
      typed = false;
      versioned = false;
      source = None;
    }

abbrev pub is_empty : List (List ℕ) → Bool
is_empty [] = true
is_empty (x ∷ xs) = false

-- the declarations of a top-level block
abbrev pub of_block : List Numbered → ℕ → List (List ℕ) → List Attribute → List (Declaration ℕ)
of_block ts token names attributes =
    if bytes_eq (text_of ts token) (codes "locals")
    then (if is_empty names then map of_local attributes else [])
    else by_declarer ts token names attributes (declarer (text_of ts token))

-- the declarations of an item; `rest` follows it in the list of items
abbrev pub of_item : List Numbered → Item → List Item → List (Declaration ℕ)
of_item ts (item.Block level token end) rest =
    if is_closed level then of_block ts token (labels_in ts rest) (attributes_in ts rest) else []
of_item ts _ rest = []

abbrev pub of_items : List Numbered → List Item → List (Declaration ℕ)
of_items ts [] = []
of_items ts (i ∷ rest) = of_item ts i rest ++ of_items ts rest

-- THE DECLARATIONS of numbered tokens, in order
abbrev pub declarations : List Numbered → List (Declaration ℕ)
declarations ts = of_items ts (items_of ts)
