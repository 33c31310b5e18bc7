use Rattle.std.proofs.Common.{ap₂}
use Rattle.lint_forms.proofs.AddsLemmas.{adds_as, adds_then}
use Rattle.editor_messages.specs.Inner.Named.{change_tokens}
use Rattle.editor_messages.proofs.rename.write_change.Goals as goal

pub returns : goal.returns
returns c =
    let w0 = c.args.writer.now in
    let w1 = c.write_parts.new.writer in
    let w2 = c.write_edits.new.writer in
    let version = c.args.document.now.version in
    adds_as c.write_edits.result w0 w2 _ _
    (ap₂ (λ uri ranges. change_tokens c.args.name.now (record { uri = uri; version = version; ranges = ranges })) c.as_str-uri.ensures.value c.as_slice.ensures.value)
    (adds_then c.write_edits.result w0 w1 w2 _ _ c.in_ok-write_parts.ensures c.write_edits.ensures)
