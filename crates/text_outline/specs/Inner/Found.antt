-- What was found for an item, as a list.
use Rattle.std.specs.Prelude.{List, [], ◌∷◌, Option, Some, None}
use Rattle.text_outline.specs.Symbols.{Symbol}
use Rattle.text_outline.specs.Views.{symbol_seen}
use Rattle.text_outline.specs.declared.fold.Fold.{Fold}
use Rattle.text_outline.specs.declared.symbol.Symbol.{Symbol as SymbolOf}

abbrev pub found_symbols : Option SymbolOf → List Symbol
found_symbols None = []
found_symbols (Some s) = symbol_seen s ∷ []

abbrev pub found_folds : Option Fold → List Fold
found_folds None = []
found_folds (Some f) = f ∷ []
