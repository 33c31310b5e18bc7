use Rattle.std.proofs.Common.{◌<◌, arith, subst}
use Rattle.source_snippet.proofs.LineLemmas.{line_len, line_len_above, line_len_is}
use Rattle.source_snippet.proofs.line.near_line_end.Goals as goal

pub returns-then-end-eq-MOST_BYTES-clause-end : goal.returns-then-end-eq-MOST_BYTES-clause-end
returns-then-end-eq-MOST_BYTES-clause-end c =
    let text = c.args.bytes.now in
    subst (λ n. n < line_len text) c.if-end-eq-MOST_BYTES.true (line_len_above text c.loop-end.end c.loop-end-test.true c.loop-end.invariant.no_lf c.if-bytes-end-ne10.true)

pub returns-else-bytes-end-ne10-clause-end : goal.returns-else-bytes-end-ne10-clause-end
returns-else-bytes-end-ne10-clause-end c = line_len_is _ _ c.loop-end.invariant.within c.loop-end.invariant.no_lf (λ _. c.if-bytes-end-ne10.false)

pub returns-after-loop-end-clause-end : goal.returns-after-loop-end-clause-end
returns-after-loop-end-clause-end c = line_len_is _ _ c.loop-end.invariant.within c.loop-end.invariant.no_lf (λ h. absurd (omega arith))
