use Rattle.std.proofs.Common.{◌≡◌, false, drop, map}
use Rattle.command_line.proofs.WriterLemmas.{Goes}
use Rattle.tfls_command.specs.Runs.{frames}
use Rattle.tfls_command.proofs.serve.write_frames.Given as goal

-- if the writer takes the remaining frames, it has taken all of them
abbrev pub invariant-loop-message : goal.invariant-loop-message
invariant-loop-message g l =
    (g.O.ByteSink.failed l.out ≡ false)
    × Goes (g.O.ByteSink.taken l.initial.out) (g.O.ByteSink.taken l.out) (frames (map (λ m. m.body.items) (drop l.message-index l.messages))) (frames (map (λ m. m.body.items) l.messages))
