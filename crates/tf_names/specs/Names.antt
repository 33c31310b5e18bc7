-- THE NAMES that a file of a module declares or refers to, and where each occurs: variables, local values, data sources
-- and calls of modules. Our own choice, after Terraform's documentation of its blocks and of references to named values.
use Rattle.std.specs.Prelude.{ℕ, ◌+◌, ◌≤◌, ◌==◌, ◌++◌, ◌&&◌, Bool, false, List, [], ◌∷◌, Option, Some, None, codes, drop, get_or, length, map, if◌then◌else◌, option_map, option_and_then}
use Rattle.std.specs.Str.{bytes_eq}
use Rattle.hcl_grammar.specs.Items.{is_closed, outline}
use Rattle.hcl_grammar.specs.Labels.{label_text, text_of}
use Rattle.hcl_grammar.specs.Numbered.{Numbered, number_tokens, significant}
use Rattle.hcl_grammar.specs.Verdict.{start_of}
use Rattle.hcl_grammar.specs.declared.item.Item.{Item}
use Rattle.hcl_grammar.specs.declared.item.Item.TheVariants as item
use Rattle.hcl_grammar.specs.declared.item.Label.{Label}
use Rattle.hcl_tokens.specs.Kinds.{is}
use Rattle.hcl_tokens.specs.Lexemes.{Lexeme}
use Rattle.hcl_tokens.specs.Scanned.{Scanned}
use Rattle.hcl_tokens.specs.declared.token.Kind.TheVariants as kind
use Rattle.tf_facts.specs.Declarations.{attributes_in}
use Rattle.tf_facts.specs.References.{name_after}
use Rattle.tf_names.specs.declared.occurrence.OccurrenceKind.{OccurrenceKind}
use Rattle.tf_names.specs.declared.occurrence.OccurrenceKind.TheVariants as occurs

-- the name of a data source is its type and its own name
pub data Name : Type 0 where
  Variable : List ℕ → Name
  Local : List ℕ → Name
  Data : List ℕ → List ℕ → Name
  Module : List ℕ → Name

-- the part of a name that a rename replaces
abbrev pub last_part : Name → List ℕ
last_part (Variable n) = n
last_part (Local n) = n
last_part (Data t n) = n
last_part (Module n) = n

-- the name with another last part
abbrev pub with_last_part : List ℕ → Name → Name
with_last_part new (Variable n) = Variable new
with_last_part new (Local n) = Local new
with_last_part new (Data t n) = Data t new
with_last_part new (Module n) = Module new

abbrev pub is_same : Name → Name → Bool
is_same (Variable m) (Variable n) = bytes_eq m n
is_same (Local m) (Local n) = bytes_eq m n
is_same (Data t m) (Data u n) = bytes_eq t u && bytes_eq m n
is_same (Module m) (Module n) = bytes_eq m n
is_same _ _ = false

-- An occurrence of a name. What refers begins at `front`, with its first word; the last part of the name is spelled
-- from `start` to `end`. At a declaration `front` is `start`.
pub record Occurrence : Type 0 where
  pub name : Name
  pub kind : OccurrenceKind
  pub front : ℕ
  pub start : ℕ
  pub end : ℕ

-- ---- texts with their offsets

-- a text of a file, and the offsets between which it is spelled
pub record Stretch : Type 0 where
  pub text : List ℕ
  pub start : ℕ
  pub end : ℕ

-- the text that is spelled from an offset on
abbrev pub stretch_at : List ℕ → ℕ → Stretch
stretch_at text start = record { text = text; start = start; end = start + length text }

-- the offset at which the token of this number ends
abbrev pub stop_of : List Lexeme → ℕ → ℕ
stop_of tokens n = get_or (map (λ t. t.start + length t.text) tokens) n 0

-- the token of this number
abbrev pub word_stretch : List Lexeme → ℕ → Stretch
word_stretch tokens n = stretch_at (text_of (number_tokens tokens) n) (start_of tokens n)

-- the text of a label; it begins after the quote, if the label has more than one token
abbrev pub label_stretch : List Lexeme → Label → Stretch
label_stretch tokens l =
    stretch_at (label_text (number_tokens tokens) l)
    (if l.first == l.last then start_of tokens l.first else stop_of tokens l.first)

-- ---- declarations

abbrev pub declaration_of : Name → Stretch → Occurrence
declaration_of name s = record {
  name = name;
  kind = occurs.Declaration;
  front = s.start;
  start = s.start;
  end = s.end;
}

-- what a top-level block declares, by the word that is its kind, its labels, and the names of the attributes in it
abbrev pub declared_in_block : List ℕ → List Stretch → List Stretch → List Occurrence
declared_in_block word [] attributes =
    if bytes_eq word (codes "locals")
    then map (λ n. declaration_of (Local n.text) n) attributes else []
declared_in_block word (n ∷ []) attributes =
    if bytes_eq word (codes "variable") then declaration_of (Variable n.text) n ∷ []
    else if bytes_eq word (codes "module") then declaration_of (Module n.text) n ∷ []
    else []
declared_in_block word (t ∷ n ∷ []) attributes =
    if bytes_eq word (codes "data") then declaration_of (Data t.text n.text) n ∷ [] else []
declared_in_block word (t ∷ n ∷ m ∷ labels) attributes = []

-- the labels of a block; `rest` follows it
abbrev pub label_stretches : List Lexeme → List Item → List Stretch
label_stretches tokens (item.Label l ∷ rest) = label_stretch tokens l ∷ label_stretches tokens rest
label_stretches tokens _ = []

-- the names of the attributes directly in it
abbrev pub attribute_stretches : List Lexeme → List Item → List Stretch
attribute_stretches tokens rest =
    map (λ a. word_stretch tokens a.token) (attributes_in (number_tokens tokens) rest)

-- what an item declares; `rest` follows it in the list of items
abbrev pub declared_by_item : List Lexeme → Item → List Item → List Occurrence
declared_by_item tokens (item.Block level token end) rest =
    if is_closed level
    then declared_in_block (text_of (number_tokens tokens) token) (label_stretches tokens rest)
    (attribute_stretches tokens rest) else []
declared_by_item tokens _ rest = []

abbrev pub declared_by_items : List Lexeme → List Item → List Occurrence
declared_by_items tokens [] = []
declared_by_items tokens (i ∷ rest) =
    declared_by_item tokens i rest ++ declared_by_items tokens rest

-- THE DECLARATIONS of a file, in order
abbrev pub name_declarations : List Lexeme → List Occurrence
name_declarations tokens = declared_by_items tokens (outline tokens)

-- ---- references

-- a reference to a name, by the numbers of its first word and of the token that is the last part of the name
pub record NameReference : Type 0 where
  pub word : ℕ
  pub token : ℕ
  pub name : Name

-- a reference to this name, by its first word and by the last part of the name
abbrev pub refer : Numbered → Numbered → Name → NameReference
refer w n name = record { word = w.number; token = n.number; name = name }

-- the reference of a first word and a name after a dot; `rest` follows
abbrev pub refers_by : Numbered → Numbered → List Numbered → Option NameReference
refers_by w n rest =
    if bytes_eq w.text (codes "var") then Some (refer w n (Variable n.text))
    else if bytes_eq w.text (codes "local") then Some (refer w n (Local n.text))
    else if bytes_eq w.text (codes "data")
    then option_map (λ m. refer w m (Data n.text m.text)) (name_after rest)
    else if bytes_eq w.text (codes "module") then Some (refer w n (Module n.text))
    else None

-- the reference with which these tokens begin: `var . n`, `local . n`, `data . t . n` or `module . n`
abbrev pub refers_at : List Numbered → Option NameReference
refers_at [] = None
refers_at (w ∷ ts) =
    if is kind.Ident w.kind then option_and_then (λ n. refers_by w n (drop 2 ts)) (name_after ts)
    else None

abbrev pub listed_reference : Option NameReference → List NameReference
listed_reference None = []
listed_reference (Some r) = r ∷ []

-- the references of significant tokens, if a dot precedes them or not; none begins directly after a dot
abbrev pub refers_from : Bool → List Numbered → List NameReference
refers_from after_dot [] = []
refers_from after_dot (t ∷ ts) =
    (if after_dot then [] else listed_reference (refers_at (t ∷ ts)))
    ++ refers_from (is kind.Dot t.kind) ts

-- THE REFERENCES of numbered tokens, in order, without comments, blanks and newlines, heredocs included
abbrev pub name_references : List Numbered → List NameReference
name_references ts = refers_from false (significant ts)

abbrev pub occurrence_of : List Lexeme → NameReference → Occurrence
occurrence_of tokens r = record {
  name = r.name;
  kind = occurs.Reference;
  front = start_of tokens r.word;
  start = (word_stretch tokens r.token).start;
  end = (word_stretch tokens r.token).end;
}

-- ---- THE OCCURRENCES of names in a file: its declarations in order, then its references in order

abbrev pub occurrences : Scanned → List Occurrence
occurrences s =
    name_declarations s.tokens
    ++ map (occurrence_of s.tokens) (name_references (number_tokens s.tokens))

-- the offsets of an occurrence are in order, in a text of this length
pub record IsInOrder (len : ℕ) (o : Occurrence) : Type 0 where
  pub front : o.front ≤ o.start
  pub order : o.start ≤ o.end
  pub within : o.end ≤ len
