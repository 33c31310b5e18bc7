use Rattle.std.proofs.Common.{take}
use Rattle.lint_forms.proofs.AddsLemmas.{Added}
use Rattle.editor_messages.specs.Inner.Nesting.{folds_tokens}
use Rattle.editor_messages.proofs.fold.write_folds.Given as goal

abbrev pub invariant-loop-fold : goal.invariant-loop-fold
invariant-loop-fold l = Added l.initial.writer l.writer (folds_tokens (take l.fold-index l.folds))
