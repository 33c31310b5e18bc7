use Rattle.std.proofs.Common.{ℕ, ◌+◌, slice_range, if◌then◌else◌, arith, sym, ap, ◌∙◌}
use Rattle.std.specs.List.{prefix_len}
use Rattle.hcl_tokens.specs.Spelling.{is_blank}
use Rattle.hcl_scan.proofs.SliceLemmas.{slice_first}
use Rattle.hcl_scan.proofs.text.past_blanks.Goals as goal

pub returns-then-not-is_blank : goal.returns-then-not-is_blank
returns-then-not-is_blank c =
    let after : ℕ = prefix_len is_blank (slice_range c.args.text.now (c.loop-here.here + 1) c.args.end) in
    let first = ap (prefix_len is_blank) (slice_first c.args.text.now c.loop-here.here c.args.end c.loop-here-test.true c.requires.within) in
    let none = ap (λ v. if v then 1 + after else 0) (sym c.is_blank.ensures ∙ c.if-not-is_blank.true) in
    omega (arith, c.loop-here.invariant.same, first ∙ none)

pub loop-here-preserved : goal.loop-here-preserved
loop-here-preserved c =
    let after : ℕ = prefix_len is_blank (slice_range c.args.text.now (c.loop-here.here + 1) c.args.end) in
    let first = ap (prefix_len is_blank) (slice_first c.args.text.now c.loop-here.here c.args.end c.loop-here-test.true c.requires.within) in
    let one = ap (λ v. if v then 1 + after else 0) (sym c.is_blank.ensures ∙ c.if-not-is_blank.false) in
    record { order = omega (arith, c.loop-here-test.true); same = omega (arith, c.loop-here.invariant.same, first ∙ one) }
