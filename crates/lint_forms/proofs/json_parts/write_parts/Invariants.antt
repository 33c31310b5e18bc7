use Rattle.std.proofs.Common.{flat_map, take}
use Rattle.lint_forms.specs.JsonParts.{part_tokens}
use Rattle.lint_forms.proofs.AddsLemmas.{Added}
use Rattle.lint_forms.proofs.json_parts.write_parts.Given as goal

abbrev pub invariant-loop-part : goal.invariant-loop-part
invariant-loop-part l = Added l.initial.writer l.writer (flat_map part_tokens (take l.part-index l.parts))
