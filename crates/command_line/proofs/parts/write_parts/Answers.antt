use Rattle.std.proofs.Common.{refl}
use Rattle.command_line.proofs.WriterLemmas.{goes_on, goes_wrong, part_here, took_less}
use Rattle.command_line.proofs.parts.write_parts.Goals as goal

pub returns-in-Err-clause-took : goal.returns-in-Err-clause-took
returns-in-Err-clause-took g c =
    goes_wrong _ _ _ _ _ _ _ _ (part_here c.args.parts.now c.loop-part.part-index _ _ c.loop-part-test.true refl) c.in-Err.ensures.failed
    (took_less _ _ _ _ c.in-Err._fault.written c.in-Err.ensures.failed c.in-Err.ensures.written c.in-Err.ensures.err) c.loop-part.invariant.1

pub loop-part-preserved : goal.loop-part-preserved
loop-part-preserved g c = (
  c.in_default.ensures.failed,
  goes_on _ _ _ _ _ _ _ (part_here c.args.parts.now c.loop-part.part-index _ _ c.loop-part-test.true refl) c.in_default.ensures.ok c.loop-part.invariant.1,
)
