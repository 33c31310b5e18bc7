-- Symbols that are written in one pass, with the levels of those whose children may follow, the innermost first.
use Rattle.std.specs.Prelude.{ℕ, List, [], ◌∷◌, ◌++◌, codes, decimal, flat_map, nat_lt, if◌then◌else◌}
use Rattle.json.specs.Token.{Token, begin_array, begin_object, end_array, end_object, key, number, string}
use Rattle.json.specs.Tree.{json_tokens}
use Rattle.text_places.specs.declared.ranges.Range.{Range}
use Rattle.text_outline.specs.Symbols.{Symbol}
use Rattle.text_outline.specs.declared.fold.Fold.{Fold}
use Rattle.editor_messages.specs.Outlines.{fold_json, symbol_number}
use Rattle.editor_messages.specs.Replies.{range_json}

-- a symbol up to its range
abbrev pub name_tokens : List ℕ → ℕ → List Token
name_tokens name kind =
    begin_object ∷ key (codes "name") ∷ string name ∷ key (codes "kind") ∷ number (decimal kind) ∷ key (codes "range") ∷ []

-- a symbol up to its children
abbrev pub front_of : List ℕ → ℕ → Range → Range → List Token
front_of name kind range selection =
    name_tokens name kind
    ++ (json_tokens (range_json range.start range.end)
    ++ key (codes "selectionRange") ∷ (json_tokens (range_json selection.start selection.end) ++ key (codes "children") ∷ begin_array ∷ []))

abbrev pub symbol_front : Symbol → List Token
symbol_front s = front_of s.name (symbol_number s.kind) s.range s.selection

-- the ends of those to which a symbol of this level is no child
abbrev pub ends : ℕ → List ℕ → List Token
ends level [] = []
ends level (l ∷ ls) = if nat_lt l level then [] else end_array ∷ end_object ∷ ends level ls

-- the others
abbrev pub levels_left : ℕ → List ℕ → List ℕ
levels_left level [] = []
levels_left level (l ∷ ls) = if nat_lt l level then l ∷ ls else levels_left level ls

-- what is left to write
abbrev pub rest_tokens : List ℕ → List Symbol → List Token
rest_tokens levels [] = ends 0 levels ++ end_array ∷ []
rest_tokens levels (s ∷ ss) =
    ends s.level levels ++ (symbol_front s ++ rest_tokens (s.level ∷ levels_left s.level levels) ss)

abbrev pub folds_tokens : List Fold → List Token
folds_tokens folds = flat_map (λ fold. json_tokens (fold_json fold)) folds
