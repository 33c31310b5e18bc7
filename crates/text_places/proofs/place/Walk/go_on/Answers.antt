use Rattle.std.proofs.Common.{◌∙◌, ◌≡◌, ◌≤◌, ◌+◌, ap, arith, get_or, length, sym}
use Rattle.text_places.specs.Places.{walk_step}
use Rattle.text_places.proofs.WalkLemmas.{near_offset, near_walk, one_more_step}
use Rattle.text_places.proofs.place.Walk.go_on.Goals as goal

pub step-walk-requires : goal.step-walk-requires
step-walk-requires c =
    let near = near_walk c.args.units c.args.text.now c.loop-at.at c.loop-at.walk c.loop-at.invariant in
    let within : c.loop-at.at ≤ length c.args.text.now = omega (arith, c.loop-at-test.true, c.requires.within) in
    let far = near_offset c.args.units c.args.text.now c.loop-at.at c.loop-at.walk c.loop-at.invariant within in
    record {
      offset = omega (arith, far, c.loop-at-test.true, c.requires.within, c.requires.small);
      line = omega (arith, far, near.line, c.loop-at-test.true, c.requires.within, c.requires.small);
      character = omega (arith, far, near.character, c.loop-at-test.true, c.requires.within, c.requires.small);
    }

pub loop-at-preserved : goal.loop-at-preserved
loop-at-preserved c =
    let lt : c.loop-at.at + 1 ≤ length c.args.text.now = omega (arith, c.loop-at-test.true, c.requires.within) in
    c.step-walk.ensures ∙ ap (λ w. walk_step c.args.units w (get_or c.args.text.now c.loop-at.at 0)) c.loop-at.invariant
    ∙ sym (one_more_step c.args.units c.args.text.now c.loop-at.at 0 (omega (arith, lt)))

pub returns-clause-offset : goal.returns-clause-offset
returns-clause-offset c =
    let there : c.loop-at.at ≡ c.args.to = omega (arith, c.loop-at-test.false, c.loop-at.auto.at-end c.requires.order) in
    near_offset c.args.units c.args.text.now c.loop-at.at c.loop-at.walk c.loop-at.invariant (omega (arith, there, c.requires.within)) ∙ there
