use Rattle.std.proofs.Common.{◌≡◌, ◌++◌, ℕ, List, Option}
use Rattle.std.specs.Io.KnownBytes.{Appends}
use Rattle.hcl_layout.specs.Inner.Out.{Out, CutShort, stretch_text}
use Rattle.hcl_layout.proofs.OutLemmas.{err_by, ok_by, out_all}
use Rattle.hcl_layout.proofs.writer.finish.Goals as goal

pub returns-clause-ok : goal.returns-clause-ok
returns-clause-ok g c =
    let text : List ℕ = stretch_text c.args.source.now c.args.stretch in
    ok_by c.send.result
    ((base : Option (List ℕ)) (front : List ℕ) → Out base (g.W.ByteSink.taken c.push_stretch.new.to) c.push_stretch.new.buffer front → Out base (g.W.ByteSink.taken c.send.new.to) c.send.new.buffer front)
    ((base : Option (List ℕ)) (front : List ℕ) → Out base (g.W.ByteSink.taken c.args.to.now) c.args.buffer.now front → Appends base (g.W.ByteSink.taken c.send.new.to) (front ++ text)) (c.send.new.buffer.len ≡ 0)
    (λ f e base front p. out_all base (g.W.ByteSink.taken c.send.new.to) c.send.new.buffer (front ++ text) e (f base (front ++ text) (c.in_default.ensures.ok base front p)))
    c.send.ensures.ok c.send.ensures.empty

pub returns-clause-err : goal.returns-clause-err
returns-clause-err g c =
    let text : List ℕ = stretch_text c.args.source.now c.args.stretch in
    err_by c.send.result
    (λ fault. (base : Option (List ℕ)) (front : List ℕ) → Out base (g.W.ByteSink.taken c.push_stretch.new.to) c.push_stretch.new.buffer front → CutShort base (g.W.ByteSink.taken c.send.new.to) front fault)
    (λ fault. (base : Option (List ℕ)) (front : List ℕ) → Out base (g.W.ByteSink.taken c.args.to.now) c.args.buffer.now front → CutShort base (g.W.ByteSink.taken c.send.new.to) (front ++ text) fault)
    (λ fault q base front p. q base (front ++ text) (c.in_default.ensures.ok base front p)) c.send.ensures.err
