use Rattle.std.proofs.Common.{arith, refl}
use Rattle.hcl_layout.proofs.OutLemmas.{held_length, out_sent}
use Rattle.hcl_layout.proofs.writer.send.Goals as goal

pub returns-clause-ok : goal.returns-clause-ok
returns-clause-ok g c base front p =
    out_sent base _ _ c.args.buffer.now _ front refl refl (held_length c.args.buffer.now (omega arith)) c.in_default.ensures.ok p
