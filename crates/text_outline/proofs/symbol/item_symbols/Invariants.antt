use Rattle.std.proofs.Common.{◌≡◌, ◌++◌, drop, map}
use Rattle.text_outline.specs.Symbols.{symbols_in}
use Rattle.text_outline.specs.Views.{symbol_seen}
use Rattle.text_outline.proofs.symbol.item_symbols.Given as goal

abbrev pub invariant-loop-number : goal.invariant-loop-number
invariant-loop-number l = map symbol_seen l.symbols.items ++ symbols_in l.places.units l.accepted (drop l.number l.items) ≡ symbols_in l.places.units l.accepted l.items
