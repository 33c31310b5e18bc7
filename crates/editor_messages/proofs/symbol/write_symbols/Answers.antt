use Rattle.std.proofs.Common.{◌∷◌, []}
use Rattle.json.specs.Token.{end_array}
use Rattle.lint_forms.proofs.AddsLemmas.{adds_as, adds_then}
use Rattle.editor_messages.proofs.NestingLemmas.{nesting_ends, one_more_nested}
use Rattle.editor_messages.proofs.symbol.write_symbols.Goals as goal

pub loop-symbol-preserved : goal.loop-symbol-preserved
loop-symbol-preserved c =
    one_more_nested c.args.symbols.now c.loop-symbol.symbol-index c.loop-symbol.levels.items c.args.writer.now c.loop-symbol.writer c.loop-symbol.invariant c.symbol-item.result c.write_ends.new.writer c.write_front.new.writer
    c.write_ends.new.levels.items c.push.new.self.items c.loop-symbol-test.true c.symbol-item.is c.in_ok-write_ends.ensures.tokens c.in_ok-write_ends.ensures.left c.in_ok-write_front.ensures c.in_ok-push.ensures.items

pub returns : goal.returns
returns c =
    let end = nesting_ends c.args.symbols.now c.loop-symbol.symbol-index c.loop-symbol.levels.items c.args.writer.now c.loop-symbol.writer c.loop-symbol.invariant c.write_ends-2.new.writer c.loop-symbol-test.false c.in_ok-write_ends-2.ensures.tokens in
    adds_as c.write_parts.result c.args.writer.now c.write_parts.new.writer _ _ end.2 (adds_then c.write_parts.result c.args.writer.now c.write_ends-2.new.writer c.write_parts.new.writer end.0 (end_array ∷ []) end.1 c.write_parts.ensures)
