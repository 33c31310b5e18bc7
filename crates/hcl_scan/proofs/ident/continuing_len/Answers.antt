use Rattle.std.proofs.Common.{arith}
use Rattle.hcl_scan.proofs.IdentLemmas.{continued_ascii, continued_more, continued_falls, ascii_stops}
use Rattle.hcl_scan.proofs.ident.continuing_len.Goals as goal

pub returns-then-byte_at-lt128-clause-boundary : goal.returns-then-byte_at-lt128-clause-boundary
returns-then-byte_at-lt128-clause-boundary c = (continued_ascii c.args.text.now c.as_bytes-bytes.result.now c.continuing_ascii-len.result c.utf8.text c.as_bytes-bytes.ensures.value c.continuing_ascii-len.ensures).boundary

pub returns-then-byte_at-lt128-clause-continuing : goal.returns-then-byte_at-lt128-clause-continuing
returns-then-byte_at-lt128-clause-continuing c = (continued_ascii c.args.text.now c.as_bytes-bytes.result.now c.continuing_ascii-len.result c.utf8.text c.as_bytes-bytes.ensures.value c.continuing_ascii-len.ensures).continuing

pub returns-then-byte_at-lt128-clause-stops : goal.returns-then-byte_at-lt128-clause-stops
returns-then-byte_at-lt128-clause-stops c = ascii_stops c.args.text.now c.as_bytes-bytes.result.now c.continuing_ascii-len.result c.as_bytes-bytes.ensures.value c.continuing_ascii-len.ensures (omega (arith, c.byte_at.ensures, c.if-byte_at-lt128.true))

pub loop-n-init : goal.loop-n-init
loop-n-init c = continued_ascii c.args.text.now c.as_bytes-bytes.result.now c.continuing_ascii-len.result c.utf8.text c.as_bytes-bytes.ensures.value c.continuing_ascii-len.ensures

pub loop-n-smaller : goal.loop-n-smaller
loop-n-smaller c = continued_falls c.args.text.now c.range_from.result.now c.loop-n.len c.in-Some.n c.range_from.ensures.value c.in-Some.ensures.found

pub loop-n-preserved : goal.loop-n-preserved
loop-n-preserved c = continued_more c.args.text.now c.range_from.result.now c.loop-n.len c.in-Some.n c.utf8.text c.loop-n.invariant c.range_from.ensures.value c.in-Some.ensures.found
