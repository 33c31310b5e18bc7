use Rattle.std.proofs.Common.{◌≡◌, ℕ, Bool, false, List, Option, drop, map}
use Rattle.std.specs.List.{concat}
use Rattle.command_line.specs.Rows.{TookBy}
use Rattle.tfrules_command.proofs.report.write_each.Given as goal

-- the bytes taken of the rest from now on complete those of the whole
abbrev pub invariant-loop-part : goal.invariant-loop-part
invariant-loop-part g l =
    (g.O.ByteSink.failed l.out ≡ false)
    × ((after : Option (List ℕ)) (f : Bool)
    → TookBy f (g.O.ByteSink.taken l.out) after (concat (map (λ part. part.now) (drop l.part-index l.parts)))
    → TookBy f (g.O.ByteSink.taken l.initial.out) after (concat (map (λ part. part.now) l.parts)))
    × (g.O.ByteSink.flushes l.out ≡ g.O.ByteSink.flushes l.initial.out)
