use Rattle.std.proofs.Common.{◌≡◌, ◌≤◌, ◌+◌, ◌==◌, not, length, drop, arith}
use Rattle.std.specs.List.{prefix_len}
use Rattle.hcl_scan.proofs.SliceLemmas.{slice_len}
use Rattle.hcl_scan.proofs.ByteBlockLemmas.{run_goes_on}
use Rattle.hcl_scan.proofs.text.line_len.Goals as goal

pub loop-len-preserved : goal.loop-len-preserved
loop-len-preserved c =
    let within : c.loop-len.len + 16 ≤ length c.args.seen.now = omega (arith, c.loop-len-test.true, c.loop-len.invariant.within) in
    let same : prefix_len (λ b. not (b == 10)) (drop c.loop-len.len c.args.seen.now) ≡ 16 + prefix_len (λ b. not (b == 10)) (drop (c.loop-len.len + 16) c.args.seen.now) =
    run_goes_on (λ b. not (b == 10)) c.args.seen.now c.loop-len.len 16 within c.line_run-more.result c.line_run-more.ensures.count (omega (arith, c.line_run-more.ensures.within, c.if-more-lt-LANES.false, slice_len c.args.seen.now c.loop-len.len (c.loop-len.len + 16) (omega arith) within)) in
    record { within = within; same = omega (arith, c.loop-len.invariant.same, same) }
