use Rattle.std.proofs.Common.{map, take}
use Rattle.module_find.specs.KeptRefusals.{KeepsAll}
use Rattle.module_config.specs.Refusals.{line_refusal}
use Rattle.module_config.proofs.keep.keep_lines.Given as goal

abbrev pub invariant-loop-bad : goal.invariant-loop-bad
invariant-loop-bad l = KeepsAll l.initial.kept l.kept (map (line_refusal l.name) (take l.bad-index l.all))
