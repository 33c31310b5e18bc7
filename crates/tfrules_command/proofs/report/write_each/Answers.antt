use Rattle.std.proofs.Common.{◌∙◌, ◌<◌, ◌≤◌, ℕ, arith, refl}
use Rattle.command_line.proofs.WriterLemmas.{goes_on, goes_wrong, part_here, took_part}
use Rattle.tfrules_command.proofs.report.write_each.Goals as goal

no_longer : (a b : ℕ) → a < b → a ≤ b
no_longer a b h = omega (arith, h)

pub returns-in-Err-clause-took : goal.returns-in-Err-clause-took
returns-in-Err-clause-took g c =
    goes_wrong _ _ _ _ _ _ _ _ (part_here c.args.parts.now c.loop-part.part-index _ _ c.loop-part-test.true refl) c.in-Err.ensures.failed
    (took_part _ _ _ _ c.in-Err.fault.written c.in-Err.ensures.failed (no_longer _ _ c.in-Err.ensures.written) c.in-Err.ensures.err) c.loop-part.invariant.1

pub loop-part-preserved : goal.loop-part-preserved
loop-part-preserved g c = (
  c.in_default.ensures.failed,
  goes_on _ _ _ _ _ _ _ (part_here c.args.parts.now c.loop-part.part-index _ _ c.loop-part-test.true refl)
      c.in_default.ensures.ok c.loop-part.invariant.1,
  c.in_default.ensures.flushes ∙ c.loop-part.invariant.2,
)
