use Rattle.std.proofs.Common.{ap₂}
use Rattle.lint_forms.proofs.AddsLemmas.{adds_as}
use Rattle.editor_messages.specs.Inner.Named.{ranges_tokens}
use Rattle.editor_messages.proofs.location.write_document.Goals as goal

pub returns : goal.returns
returns c =
    adds_as c.write_ranges.result c.args.writer.now c.write_ranges.new.writer _ _
    (ap₂ ranges_tokens c.as_str-uri.ensures.value c.as_slice.ensures.value) c.write_ranges.ensures
