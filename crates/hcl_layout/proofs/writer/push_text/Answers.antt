use Rattle.std.proofs.Common.{◌++◌, ℕ, List, Option, append_assoc, replicate, subst}
use Rattle.hcl_layout.specs.Inner.Out.{Out, CutShort}
use Rattle.hcl_layout.proofs.OutLemmas.{err_by, cut_short_more}
use Rattle.hcl_layout.proofs.writer.push_text.Goals as goal

pub returns-in-Err-clause-err : goal.returns-in-Err-clause-err
returns-in-Err-clause-err g c base front p =
    let blanks : List ℕ = replicate c.args.gap 32 in
    subst (λ l. CutShort base (g.W.ByteSink.taken c.push_blanks.new.to) l c.in-Err.fault) (append_assoc front blanks c.args.text.now)
    (cut_short_more base _ (front ++ blanks) c.args.text.now c.in-Err.fault (c.in-Err.ensures.err base front p))

pub returns-clause-err : goal.returns-clause-err
returns-clause-err g c =
    let blanks : List ℕ = replicate c.args.gap 32 in
    err_by c.push.result
    (λ fault. (base : Option (List ℕ)) (front : List ℕ) → Out base (g.W.ByteSink.taken c.push_blanks.new.to) c.push_blanks.new.buffer front → CutShort base (g.W.ByteSink.taken c.push.new.to) (front ++ c.args.text.now) fault)
    (λ fault. (base : Option (List ℕ)) (front : List ℕ) → Out base (g.W.ByteSink.taken c.args.to.now) c.args.buffer.now front → CutShort base (g.W.ByteSink.taken c.push.new.to) (front ++ (blanks ++ c.args.text.now)) fault)
    (λ fault q base front p. subst (λ l. CutShort base (g.W.ByteSink.taken c.push.new.to) l fault) (append_assoc front blanks c.args.text.now)
    (q base (front ++ blanks) (c.in_default.ensures.ok base front p))) c.push.ensures.err
