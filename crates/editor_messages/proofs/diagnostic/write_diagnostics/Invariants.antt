use Rattle.std.proofs.Common.{map, take}
use Rattle.lint_forms.proofs.AddsLemmas.{Added}
use Rattle.editor_messages.specs.Inner.Heads.{diagnostics_tokens}
use Rattle.editor_messages.specs.Views.{diagnostic_seen}
use Rattle.editor_messages.proofs.diagnostic.write_diagnostics.Given as goal

abbrev pub invariant-loop-diagnostic : goal.invariant-loop-diagnostic
invariant-loop-diagnostic l = Added l.initial.writer l.writer (diagnostics_tokens (map diagnostic_seen (take l.diagnostic-index l.diagnostics)))
