use Rattle.std.proofs.Common.{◌≡◌, ◌≤◌, ◌∙◌, ◌+◌, ◌-◌, ap, take, drop, arith}
use Rattle.std.specs.Prelude.{◌==◌, count_by}
use Rattle.hcl_source.proofs.LineEndLemmas.{block_more, ends_few, rest_more}
use Rattle.hcl_source.proofs.lines.line_ends.Goals as goal

pub loop-from-preserved : goal.loop-from-preserved
loop-from-preserved c =
    let bytes = c.args.bytes.now in
    let from = c.loop-from.from in
    let n : from + 240 - from ≡ 240 = omega arith in
    let more = block_more bytes from 240 c.loop-from.count c.block_line_ends-block.result c.loop-from.invariant.count
    (c.block_line_ends-block.ensures ∙ ap (λ k. count_by (λ b. b == 10) (take k (drop from bytes))) n) in
    record { within = omega (arith, c.loop-from-test.true); count = more; few = ends_few bytes (from + 240) (c.loop-from.count + c.block_line_ends-block.result) more }

pub returns-clause-count : goal.returns-clause-count
returns-clause-count c = rest_more c.args.bytes.now c.loop-from.from c.loop-from.count c.block_line_ends-rest.result c.loop-from.invariant.count c.block_line_ends-rest.ensures
