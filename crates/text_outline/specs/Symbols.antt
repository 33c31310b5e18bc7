-- THE SYMBOLS of a text (Language Server Protocol 3.17, "Document Symbols Request"): its attributes and blocks, in order.
-- Names of blocks are our own choice: the kind, and each label in quotes.
use Rattle.std.specs.Prelude.{◌≡◌, ◌⊎◌, ℕ, ◌+◌, ◌-◌, List, [], ◌∷◌, ◌++◌, codes, get_or, length, map}
use Rattle.hcl_grammar.specs.Items.{outline}
use Rattle.hcl_grammar.specs.Labels.{label_text, text_of}
use Rattle.hcl_grammar.specs.Numbered.{Numbered, number_tokens}
use Rattle.hcl_grammar.specs.Verdict.{start_of}
use Rattle.hcl_grammar.specs.declared.item.Item.{Item}
use Rattle.hcl_grammar.specs.declared.item.Item.TheVariants as item
use Rattle.hcl_tokens.specs.Lexemes.{Lexeme}
use Rattle.hcl_tokens.specs.Scanned.{Scanned}
use Rattle.text_places.specs.declared.ranges.Range.{Range}
use Rattle.text_places.specs.Places.{place_at}
use Rattle.text_places.specs.declared.place.Units.{Units}
use Rattle.text_outline.specs.Files.{IsFile, IsRefused}
use Rattle.text_outline.specs.declared.symbol.SymbolKind.{SymbolKind}
use Rattle.text_outline.specs.declared.symbol.SymbolKind.TheVariants.{Attribute, Block}

-- a symbol; its level is the number of blocks around it
pub record Symbol : Type 0 where
  pub name : List ℕ
  pub kind : SymbolKind
  pub level : ℕ
  pub range : Range
  pub selection : Range

-- ---- names

-- a label as a name shows it
abbrev pub in_quotes : List ℕ → List ℕ
in_quotes label = codes " \"" ++ label ++ codes "\""

-- the labels at the front of these items
abbrev pub quoted_labels : List Numbered → List Item → List ℕ
quoted_labels ts (item.Label l ∷ is) = in_quotes (label_text ts l) ++ quoted_labels ts is
quoted_labels ts _ = []

-- the name of a block that these items follow: resource "aws_instance" "web"
abbrev pub block_name : List Numbered → ℕ → List Item → List ℕ
block_name ts kind is = text_of ts kind ++ quoted_labels ts is

-- ---- ranges

-- the offset at which the token of this number ends
abbrev pub stop_of : List Lexeme → ℕ → ℕ
stop_of tokens n = get_or (map (λ t. t.start + length t.text) tokens) n 0

-- from where one token begins to where another ends
abbrev pub range_between : Units → Scanned → ℕ → ℕ → Range
range_between units s first last = record {
  start = place_at units s.text (start_of s.tokens first);
  end = place_at units s.text (stop_of s.tokens last);
}

-- ---- symbols

-- a symbol with these tokens: its first, and one past its last
abbrev pub symbol : Units → Scanned → List ℕ → SymbolKind → ℕ → ℕ → ℕ → Symbol
symbol units s name kind level first end = record {
  name = name;
  kind = kind;
  level = level;
  range = range_between units s first (end - 1);
  selection = range_between units s first first;
}

-- the symbol of an item that these follow; a label has none
abbrev pub symbol_of : Units → Scanned → Item → List Item → List Symbol
symbol_of units s (item.Attribute level name first end) is =
    symbol units s (text_of (number_tokens s.tokens) name) Attribute level name end ∷ []
symbol_of units s (item.Block level kind end) is =
    symbol units s (block_name (number_tokens s.tokens) kind is) Block level kind end ∷ []
symbol_of units s (item.Label l) is = []

abbrev pub symbols_in : Units → Scanned → List Item → List Symbol
symbols_in units s [] = []
symbols_in units s (i ∷ is) = symbol_of units s i is ++ symbols_in units s is

-- the symbols of a file
abbrev pub symbols_of : Units → Scanned → List Symbol
symbols_of units s = symbols_in units s (outline s.tokens)

-- the symbols of a text, or none if it is refused
abbrev pub HasSymbols : Units → List ℕ → List Symbol → Type 0
HasSymbols units text symbols =
    ((s : Scanned) × IsFile text s × (symbols ≡ symbols_of units s))
    ⊎ (IsRefused text × (symbols ≡ []))
