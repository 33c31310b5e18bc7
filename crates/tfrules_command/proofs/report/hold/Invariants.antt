use Rattle.std.proofs.Common.{◌≡◌, ◌++◌, map, take}
use Rattle.std.specs.List.{concat}
use Rattle.tfrules_command.proofs.report.hold.Given as goal

abbrev pub invariant-loop-part : goal.invariant-loop-part
invariant-loop-part l = l.page.items ≡ l.fn.page.items ++ concat (map (λ part. part.now) (take l.part-index l.parts))
