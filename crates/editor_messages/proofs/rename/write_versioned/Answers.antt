use Rattle.std.proofs.Common.{◌∙◌, ap₂}
use Rattle.json.specs.Tree.{json_tokens}
use Rattle.lint_forms.proofs.AddsLemmas.{added_then, adds_as, adds_then}
use Rattle.editor_messages.specs.Names.{versioned_edits}
use Rattle.editor_messages.proofs.NamedLemmas.{one_versioned}
use Rattle.editor_messages.proofs.rename.write_versioned.Goals as goal

pub returns : goal.returns
returns c =
    let w0 = c.args.writer.now in
    let w1 = c.write_parts.new.writer in
    let w2 = c.write_version.new.writer in
    let w3 = c.write_parts-2.new.writer in
    let w4 = c.write_edits.new.writer in
    let w5 = c.write_parts-3.new.writer in
    let name = c.args.name.now in
    let version = c.args.document.now.version in
    adds_as c.write_parts-3.result w0 w5 _ _
    (one_versioned name (record { uri = c.as_str-uri.result.now; version = version; ranges = c.as_slice.result.now })
    ∙ ap₂ (λ uri ranges. json_tokens (versioned_edits name (record { uri = uri; version = version; ranges = ranges }))) c.as_str-uri.ensures.value c.as_slice.ensures.value)
    (adds_then c.write_parts-3.result w0 w4 w5 _ _
    (added_then w0 w3 w4 _ _ (added_then w0 w2 w3 _ _ (added_then w0 w1 w2 _ _ c.in_ok-write_parts.ensures c.in_ok-write_version.ensures) c.in_ok-write_parts-2.ensures) c.in_ok-write_edits.ensures) c.write_parts-3.ensures)
