use Rattle.std.proofs.Common.{take}
use Rattle.lint_forms.proofs.AddsLemmas.{Added}
use Rattle.editor_messages.specs.Inner.Named.{renaming_tokens}
use Rattle.editor_messages.proofs.rename.write_renamings.Given as goal

abbrev pub invariant-loop-range : goal.invariant-loop-range
invariant-loop-range l = Added l.initial.writer l.writer (renaming_tokens l.name (take l.range-index l.ranges))
