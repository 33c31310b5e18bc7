use Rattle.std.proofs.Common.{take}
use Rattle.lint_forms.specs.Inner.SarifParts.{rules_tokens}
use Rattle.lint_forms.proofs.AddsLemmas.{Added}
use Rattle.lint_forms.proofs.sarif.write_rules.Given as goal

abbrev pub invariant-loop-rule : goal.invariant-loop-rule
invariant-loop-rule l = Added l.initial.writer l.writer (rules_tokens (take l.rule-index l.rules))
