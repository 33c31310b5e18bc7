use Rattle.std.proofs.Common.{◌∙◌, ℕ, List, map, subst}
use Rattle.std.specs.Prelude.{IfOk}
use Rattle.text_outline.specs.Symbols.{HasSymbols}
use Rattle.text_outline.specs.Views.{symbol_seen}
use Rattle.text_outline.proofs.symbol.symbols_of.Goals as goal

pub returns-in-Ok : goal.returns-in-Ok
returns-in-Ok c =
    subst (λ (text : List ℕ). IfOk c.source_symbols.result (λ symbols. HasSymbols c.args.units text (map symbol_seen symbols.items))) (c.in-Ok.ensures.loaded.0 ∙ c.as_bytes.ensures.value) c.source_symbols.ensures
