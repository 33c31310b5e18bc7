use Rattle.std.proofs.Common.{◌≡◌, false, drop, map}
use Rattle.std.specs.List.{concat}
use Rattle.command_line.proofs.WriterLemmas.{Goes}
use Rattle.command_line.proofs.parts.write_parts.Given as goal

-- if the writer takes the remaining parts, it has taken all of them
abbrev pub invariant-loop-part : goal.invariant-loop-part
invariant-loop-part g l =
    (g.S.ByteSink.failed l.sink ≡ false)
    × Goes (g.S.ByteSink.taken l.initial.sink) (g.S.ByteSink.taken l.sink) (concat (map (λ part. part.now) (drop l.part-index l.parts))) (concat (map (λ part. part.now) l.parts))
