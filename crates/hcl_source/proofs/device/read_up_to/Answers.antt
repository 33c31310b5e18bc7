use Rattle.std.proofs.Common.{arith}
use Rattle.std.proofs.KnownBytes.{Consumes-trans}
use Rattle.std.proofs.lemmas.Grind.{common_steps}
use Rattle.hcl_source.proofs.device.read_up_to.Goals as goal

pub returns-then-is_err-clause-taken : goal.returns-then-is_err-clause-taken
returns-then-is_err-clause-taken g c =
    (_, Consumes-trans _ _ _ _ _ c.loop-buffer.invariant.given c.in-Ok.ensures.bytes.0, grind (arith, common_steps))
