-- THE SYMBOLS AND THE FOLDS of a document as an editor is told them (Language Server Protocol 3.17, "Document Symbols Request"
-- and "Folding Range Request").
use Rattle.std.specs.Prelude.{ℕ, zero, suc, List, [], ◌∷◌, codes, decimal, length, map, nat_lt, if◌then◌else◌}
use Rattle.json.specs.Json.{Items, Json, array, item, member, no_items, no_members, number, object, string}
use Rattle.lint_forms.specs.JsonValues.{json_items}
use Rattle.text_outline.specs.Symbols.{Symbol}
use Rattle.text_outline.specs.declared.fold.Fold.{Fold}
use Rattle.text_outline.specs.declared.symbol.SymbolKind.{SymbolKind}
use Rattle.text_outline.specs.declared.symbol.SymbolKind.TheVariants.{Attribute, Block}
use Rattle.editor_messages.specs.Replies.{range_json}

-- the protocol's number for what a symbol is: a class or a property
abbrev pub symbol_number : SymbolKind → ℕ
symbol_number Block = 5
symbol_number Attribute = 7

-- a symbol with its children
abbrev pub symbol_json : Symbol → Items → Json
symbol_json s children =
    object (member (codes "name") (string s.name)
    (member (codes "kind") (number (decimal (symbol_number s.kind)))
    (member (codes "range") (range_json s.range.start s.range.end)
    (member (codes "selectionRange") (range_json s.selection.start s.selection.end)
    (member (codes "children") (array children) no_members)))))

-- the symbols before the first that is not deeper than this level
abbrev pub deeper : ℕ → List Symbol → List Symbol
deeper level [] = []
deeper level (s ∷ ss) = if nat_lt level s.level then s ∷ deeper level ss else []

-- that symbol and those after it
abbrev pub after_deeper : ℕ → List Symbol → List Symbol
after_deeper level [] = []
after_deeper level (s ∷ ss) = if nat_lt level s.level then after_deeper level ss else s ∷ ss

-- each symbol with its children, which are the deeper ones right after it; there are at most `count` symbols
abbrev pub nested_items : ℕ → List Symbol → Items
nested_items zero ss = no_items
nested_items (suc count) [] = no_items
nested_items (suc count) (s ∷ ss) =
    item (symbol_json s (nested_items count (deeper s.level ss)))
    (nested_items count (after_deeper s.level ss))

abbrev pub symbols_json : List Symbol → Json
symbols_json ss = array (nested_items (length ss) ss)

abbrev pub fold_json : Fold → Json
fold_json fold =
    object (member (codes "startLine") (number (decimal fold.first))
    (member (codes "endLine") (number (decimal fold.last)) no_members))

abbrev pub folds_json : List Fold → Json
folds_json folds = array (json_items (map fold_json folds))
