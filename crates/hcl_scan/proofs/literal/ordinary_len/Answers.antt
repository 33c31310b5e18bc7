use Rattle.std.proofs.Common.{◌≡◌, ◌≤◌, ◌+◌, length, drop, arith}
use Rattle.std.specs.List.{prefix_len}
use Rattle.hcl_scan.specs.Inner.Found.{is_ordinary}
use Rattle.hcl_scan.proofs.SliceLemmas.{slice_len}
use Rattle.hcl_scan.proofs.ByteBlockLemmas.{run_ends, run_goes_on}
use Rattle.hcl_scan.proofs.literal.ordinary_len.Goals as goal

pub loop-len-preserved : goal.loop-len-preserved
loop-len-preserved c =
    let within : c.loop-len.len + 16 ≤ length c.args.seen.now = omega (arith, c.loop-len-test.true, c.loop-len.invariant.within) in
    let same : prefix_len is_ordinary (drop c.loop-len.len c.args.seen.now) ≡ 16 + prefix_len is_ordinary (drop (c.loop-len.len + 16) c.args.seen.now) =
    run_goes_on is_ordinary c.args.seen.now c.loop-len.len 16 within c.ordinary_run-more.result c.ordinary_run-more.ensures.count (omega (arith, c.ordinary_run-more.ensures.within, c.if-more-lt-LANES.false, slice_len c.args.seen.now c.loop-len.len (c.loop-len.len + 16) (omega arith) within)) in
    record { within = within; same = omega (arith, c.loop-len.invariant.same, same) }

pub returns-then-more-lt-LANES-clause-count : goal.returns-then-more-lt-LANES-clause-count
returns-then-more-lt-LANES-clause-count c =
    let within : c.loop-len.len + 16 ≤ length c.args.seen.now = omega (arith, c.loop-len-test.true, c.loop-len.invariant.within) in
    let ends : prefix_len is_ordinary (drop c.loop-len.len c.args.seen.now) ≡ c.ordinary_run-more.result =
    run_ends is_ordinary c.args.seen.now c.loop-len.len 16 within c.ordinary_run-more.result c.ordinary_run-more.ensures.count c.if-more-lt-LANES.true in
    omega (arith, c.loop-len.invariant.same, ends)
