use Rattle.std.proofs.Common.{◌++◌, ℕ, List, Option}
use Rattle.hcl_layout.specs.Inner.Out.{Out, CutShort}
use Rattle.hcl_layout.proofs.OutLemmas.{err_by, cut_short_more}
use Rattle.hcl_layout.proofs.writer.push.Goals as goal

pub returns-in-Err-clause-err : goal.returns-in-Err-clause-err
returns-in-Err-clause-err g c base front p = cut_short_more base _ front c.args.text.now c.in-Err.fault (c.in-Err.ensures.err base front p)

pub returns-clause-err : goal.returns-clause-err
returns-clause-err g c =
    err_by c.send_past.result
    (λ fault. (base : Option (List ℕ)) (front : List ℕ) → Out base (g.W.ByteSink.taken c.send.new.to) c.send.new.buffer front → CutShort base (g.W.ByteSink.taken c.send_past.new.to) (front ++ c.args.text.now) fault)
    (λ fault. (base : Option (List ℕ)) (front : List ℕ) → Out base (g.W.ByteSink.taken c.args.to.now) c.args.buffer.now front → CutShort base (g.W.ByteSink.taken c.send_past.new.to) (front ++ c.args.text.now) fault)
    (λ fault q base front p. q base front (c.in_default.ensures.ok base front p)) c.send_past.ensures.err
