-- Symbols as the code has them.
use Rattle.std.specs.Prelude.{string_bytes}
use Rattle.text_outline.specs.Symbols.{Symbol}
use Rattle.text_outline.specs.declared.symbol.Symbol.{Symbol as SymbolOf}

abbrev pub symbol_seen : SymbolOf → Symbol
symbol_seen s = record {
  name = string_bytes s.name;
  kind = s.kind;
  level = s.level;
  range = s.range;
  selection = s.selection;
}
