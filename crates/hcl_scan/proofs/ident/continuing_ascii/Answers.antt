use Rattle.std.proofs.Common.{◌≡◌, ◌≤◌, ◌+◌, length, drop, arith}
use Rattle.std.specs.List.{prefix_len}
use Rattle.hcl_scan.specs.Inner.Found.{continues_ascii}
use Rattle.hcl_scan.proofs.SliceLemmas.{slice_len}
use Rattle.hcl_scan.proofs.ByteBlockLemmas.{run_goes_on}
use Rattle.hcl_scan.proofs.ident.continuing_ascii.Goals as goal

pub loop-len-preserved : goal.loop-len-preserved
loop-len-preserved c =
    let within : c.loop-len.len + 8 ≤ length c.args.bytes.now = omega (arith, c.loop-len-test.true, c.loop-len.invariant.within) in
    let same : prefix_len continues_ascii (drop c.loop-len.len c.args.bytes.now) ≡ 8 + prefix_len continues_ascii (drop (c.loop-len.len + 8) c.args.bytes.now) =
    run_goes_on continues_ascii c.args.bytes.now c.loop-len.len 8 within c.continuing_few-more.result c.continuing_few-more.ensures.count (omega (arith, c.continuing_few-more.ensures.within, c.if-more-lt-BLOCK.false, slice_len c.args.bytes.now c.loop-len.len (c.loop-len.len + 8) (omega arith) within)) in
    record { within = within; same = omega (arith, c.loop-len.invariant.same, same) }
