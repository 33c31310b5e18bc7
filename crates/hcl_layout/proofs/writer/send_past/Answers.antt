use Rattle.std.proofs.Common.{refl}
use Rattle.hcl_layout.proofs.OutLemmas.{out_past}
use Rattle.hcl_layout.proofs.writer.send_past.Goals as goal

pub returns-clause-ok : goal.returns-clause-ok
returns-clause-ok g c base front p = out_past base _ _ c.args.buffer.now _ front c.args.text.now c.requires.empty c.requires.empty refl c.in_default.ensures.ok p
