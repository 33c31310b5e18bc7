use Rattle.hcl_scan.proofs.LaneLemmas.{left_without}
use Rattle.hcl_scan.proofs.heredoc.from_first_in_doubt.Goals as goal

pub loop-left-preserved : goal.loop-left-preserved
loop-left-preserved c = record {
  within = λ k set. c.loop-left.invariant.within k (c.clear_bit-left.ensures.no_more k set);
  set = left_without c.args.text.now c.args.marker.now c.args.at c.loop-left.left c.clear_bit-left.result c.lowest_bit-lane.result c.loop-left.invariant.set (c.is_ruled_out.ensures c.if-not-is_ruled_out.false) c.clear_bit-left.ensures.kept;
}
