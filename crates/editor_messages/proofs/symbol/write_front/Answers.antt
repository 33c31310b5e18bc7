use Rattle.std.proofs.Common.{ap₂}
use Rattle.lint_forms.proofs.AddsLemmas.{added_then, adds_as, adds_then}
use Rattle.editor_messages.specs.Inner.Nesting.{front_of}
use Rattle.editor_messages.proofs.symbol.write_front.Goals as goal

pub returns : goal.returns
returns c =
    let w0 = c.args.writer.now in
    let w1 = c.write_name.new.writer in
    let w2 = c.write_range.new.writer in
    let w3 = c.write_parts.new.writer in
    let w4 = c.write_range-2.new.writer in
    let w5 = c.write_parts-2.new.writer in
    adds_as c.write_parts-2.result w0 w5 _ _ (ap₂ (λ name kind. front_of name kind c.args.symbol.now.range c.args.symbol.now.selection) c.as_str-name.ensures.value c.symbol_number-number.ensures)
    (adds_then c.write_parts-2.result w0 w4 w5 _ _
    (added_then w0 w3 w4 _ _ (added_then w0 w2 w3 _ _ (added_then w0 w1 w2 _ _ c.in_ok-write_name.ensures c.in_ok-write_range.ensures) c.in_ok-write_parts.ensures) c.in_ok-write_range-2.ensures) c.write_parts-2.ensures)
