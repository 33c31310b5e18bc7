use Rattle.std.proofs.Common.{sym, ◌∙◌, arith}
use Rattle.hcl_scan.proofs.LaneLemmas.{left_without, none_below, none_left}
use Rattle.hcl_scan.proofs.heredoc.first_standing.Goals as goal

pub returns-then-stands_at-clause-found : goal.returns-then-stands_at-clause-found
returns-then-stands_at-clause-found c =
    let few = c.loop-left.invariant.within c.lowest_bit-lane.result c.lowest_bit-lane.ensures.set in (
      omega (arith, few),
      none_below c.args.text.now c.args.marker.now c.args.at c.loop-left.left c.lowest_bit-lane.result c.loop-left.invariant.set few c.lowest_bit-lane.ensures.below,
    )

pub loop-left-preserved : goal.loop-left-preserved
loop-left-preserved c = record {
  within = λ k set. c.loop-left.invariant.within k (c.clear_bit-left.ensures.no_more k set);
  set = left_without c.args.text.now c.args.marker.now c.args.at c.loop-left.left c.clear_bit-left.result c.lowest_bit-lane.result c.loop-left.invariant.set (sym c.stands_at.ensures ∙ c.if-stands_at.false) c.clear_bit-left.ensures.kept;
}

pub returns-clause-none : goal.returns-clause-none
returns-clause-none c = none_left c.args.text.now c.args.marker.now c.args.at c.loop-left.left c.loop-left.invariant.set c.loop-left-test.false
