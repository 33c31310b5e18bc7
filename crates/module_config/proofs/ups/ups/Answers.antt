use Rattle.std.proofs.Common.{◌≤◌, ◌-◌, arith, length}
use Rattle.module_config.proofs.LookLemmas.{ups_end, ups_on}
use Rattle.module_config.proofs.ups.ups.Goals as goal

pub loop-end-preserved : goal.loop-end-preserved
loop-end-preserved c =
    let less : c.loop-end.end - 1 ≤ length c.args.path.now = omega (arith, c.loop-end.invariant.0) in
    (less, ups_on c.args.path.now c.loop-end.end _ _ c.loop-end-test.true c.in_ok-add_up.ensures c.loop-end.invariant.1)

pub returns : goal.returns
returns c = ups_end c.args.path.now c.loop-end.end _ c.loop-end-test.false c.loop-end.invariant.1
