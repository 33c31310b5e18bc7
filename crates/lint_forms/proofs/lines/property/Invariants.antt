use Rattle.std.proofs.Common.{◌≡◌, flat_map}
use Rattle.std.specs.Prelude.{string_bytes}
use Rattle.lint_forms.specs.Lines.{property_char}
use Rattle.lint_forms.proofs.lines.property.Given as goal

abbrev pub invariant-loop-c : goal.invariant-loop-c
invariant-loop-c l = string_bytes l.escaped ≡ flat_map property_char l.yielded
