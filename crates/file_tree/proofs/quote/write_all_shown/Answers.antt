use Rattle.std.proofs.Common.{refl}
use Rattle.command_line.proofs.WriterLemmas.{all_taken, goes_on}
use Rattle.file_tree.proofs.WriteLemmas.{byte_here}
use Rattle.file_tree.proofs.quote.write_all_shown.Goals as goal

pub loop-byte-preserved : goal.loop-byte-preserved
loop-byte-preserved g c = (
  c.in_ok-write_shown.ensures.failed,
  goes_on _ _ _ _ _ _ _ (byte_here c.args.name.now c.loop-byte.byte-index _ _ c.loop-byte-test.true refl)
      (all_taken _ _ _ _ c.in_ok-write_shown.ensures.failed c.in_ok-write_shown.ensures.took) c.loop-byte.invariant.1,
)
