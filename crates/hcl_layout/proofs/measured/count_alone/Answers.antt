use Rattle.std.proofs.Common.{◌∙◌, ap, arith, length, sym}
use Rattle.std.proofs.lemmas.Grind.{common_steps}
use Rattle.std.proofs.lemmas.Str.{IsUtf8-past_char, chars_past_char}
use Rattle.std.proofs.StrCases.{chars_of_empty}
use Rattle.hcl_layout.specs.Inner.Simple.{are_alone}
use Rattle.hcl_layout.proofs.ClusterLemmas.{chars_few}
use Rattle.hcl_layout.proofs.measured.count_alone.Goals as goal

pub overflow_add-count : goal.overflow_add-count
overflow_add-count c =
    let buffered = c.loop-c.invariant in
    let step = chars_past_char _ _ c.in-Some.c buffered.0 c.in-Some.ensures.steps.0 in
    let sum = ap length step in
    let all = buffered.2 in
    let few = chars_few c.args.text.now in
    record { fits = grind (arith, common_steps, sum, all, few) }

pub loop-c-preserved : goal.loop-c-preserved
loop-c-preserved c =
    let buffered = c.loop-c.invariant in
    let parts = c.in-Some.ensures.steps.0 in
    let step = chars_past_char _ _ c.in-Some.c buffered.0 parts in
    let alone = sym c.is_alone.ensures ∙ c.if-not-is_alone.false in
    (IsUtf8-past_char _ _ c.in-Some.c buffered.0 parts, rw (step, alone) at buffered.1, omega (arith, ap length step, buffered.2))

pub returns-clause-alone : goal.returns-clause-alone
returns-clause-alone c =
    let buffered = c.loop-c.invariant in
    let end = chars_of_empty _ c.in-None.ensures.steps.0.0 in
    sym buffered.1 ∙ ap are_alone end

pub returns-clause-count : goal.returns-clause-count
returns-clause-count c =
    let buffered = c.loop-c.invariant in
    let end = chars_of_empty _ c.in-None.ensures.steps.0.0 in
    omega (arith, ap length end, buffered.2)

pub returns-clause-within : goal.returns-clause-within
returns-clause-within c =
    let buffered = c.loop-c.invariant in
    let end = chars_of_empty _ c.in-None.ensures.steps.0.0 in
    omega (arith, ap length end, buffered.2, chars_few c.args.text.now)
