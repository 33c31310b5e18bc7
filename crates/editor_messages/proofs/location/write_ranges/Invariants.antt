use Rattle.std.proofs.Common.{take}
use Rattle.lint_forms.proofs.AddsLemmas.{Added}
use Rattle.editor_messages.specs.Inner.Named.{ranges_tokens}
use Rattle.editor_messages.proofs.location.write_ranges.Given as goal

abbrev pub invariant-loop-range : goal.invariant-loop-range
invariant-loop-range l = Added l.initial.writer l.writer (ranges_tokens l.uri (take l.range-index l.ranges))
