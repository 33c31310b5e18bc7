use Rattle.std.proofs.Common.{◌≡◌, flat_map, take}
use Rattle.std.specs.Prelude.{string_bytes}
use Rattle.lint_command.specs.Explained.{rule_line}
use Rattle.lint_command.proofs.explain.lines_of.Given as goal

abbrev pub invariant-loop-rule : goal.invariant-loop-rule
invariant-loop-rule l = string_bytes l.text ≡ flat_map rule_line (take l.rule-index l.rules)
