use Rattle.std.proofs.Common.{◌∙◌, ◌≤◌, ◌<◌, arith, length, lit≤, refl, subst}
use Rattle.std.proofs.lemmas.List.{take_all}
use Rattle.tfrules_command.specs.Keeping.{Reached}
use Rattle.tfrules_command.proofs.GatherLemmas.{reached_more, reached_none, stops_at}
use Rattle.tfrules_command.proofs.gather.gather.Goals as goal

pub loop-number-init : goal.loop-number-init
loop-number-init g c = ((c.requires.opened, c.requires.read), λ other. refl, lit≤ tt, reached_none _ _ c.requires.none, c.requires.back)

pub loop-number-preserved : goal.loop-number-preserved
loop-number-preserved g c =
    let lt : c.loop-number.number < length c.args.names.now = omega (arith, c.len-number-end.ensures.len, c.loop-number-test.true) in
    let kept = c.loop-number.invariant in
    let a = c.in-Ok.ensures.adds in (
      a.0,
      λ other. c.in-Ok.ensures.told other ∙ kept.1 other,
      a.1.fits,
      reached_more _ c.args.names.now c.loop-number.number c.loop-number.size c.in-Ok.all c.get-name.result.now _ _ _ lt c.get-name.ensures (kept.1 c.get-name.result.now) kept.3 a.1,
      c.in-Ok.ensures.back,
    )

pub returns-in-Err-clause-gathers : goal.returns-in-Err-clause-gathers
returns-in-Err-clause-gathers g c =
    let lt : c.loop-number.number < length c.args.names.now = omega (arith, c.len-number-end.ensures.len, c.loop-number-test.true) in
    let kept = c.loop-number.invariant in
    stops_at _ c.args.names.now c.loop-number.number c.loop-number.size c.get-name.result.now _ _ _ _ c.in-Err.why lt c.get-name.ensures (kept.1 c.get-name.result.now) kept.3 c.in-Err.ensures.adds

pub returns-clause-gathers : goal.returns-clause-gathers
returns-clause-gathers g c =
    let all : length c.args.names.now ≤ c.loop-number.number = omega (arith, c.len-number-end.ensures.len, c.loop-number-test.false) in
    let kept = c.loop-number.invariant in
    (kept.0, (c.loop-number.size, subst (λ names. Reached (g.M.ModuleFiles.told c.args.files.now) names c.loop-number.size c.loop-number.facts) (take_all c.loop-number.number c.args.names.now all) kept.3))

pub returns-in-Err-clause-told : goal.returns-in-Err-clause-told
returns-in-Err-clause-told g c other = c.in-Err.ensures.told other ∙ c.loop-number.invariant.1 other
