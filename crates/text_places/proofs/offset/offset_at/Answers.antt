use Rattle.std.proofs.Common.{◌∙◌, ◌≤◌, ◌+◌, ap, arith, drop, get_or, length, sym}
use Rattle.text_places.specs.Places.{is_there, offset_from_walk, walk_step}
use Rattle.text_places.specs.declared.place.Walk.{Walk}
use Rattle.text_places.proofs.OffsetLemmas.{searched, went_on}
use Rattle.text_places.proofs.WalkLemmas.{near_offset, near_walk, one_more_step}
use Rattle.text_places.proofs.offset.offset_at.Goals as goal

pub is_there-requires : goal.is_there-requires
is_there-requires c =
    let near = near_walk c.args.units c.args.text.now c.loop-at.at c.loop-at.walk c.loop-at.invariant.walk in
    let within : c.loop-at.at ≤ length c.args.text.now = omega (arith, c.loop-at-test.true) in
    let far = near_offset c.args.units c.args.text.now c.loop-at.at c.loop-at.walk c.loop-at.invariant.walk within in
    omega (arith, far, near.character, c.loop-at-test.true, c.requires)

pub step-walk-requires-clause-offset : goal.step-walk-requires-clause-offset
step-walk-requires-clause-offset c =
    let within : c.loop-at.at ≤ length c.args.text.now = omega (arith, c.loop-at-test.true) in
    let far = near_offset c.args.units c.args.text.now c.loop-at.at c.loop-at.walk c.loop-at.invariant.walk within in
    omega (arith, far, c.loop-at-test.true, c.requires)

pub step-walk-requires-clause-line : goal.step-walk-requires-clause-line
step-walk-requires-clause-line c =
    let near = near_walk c.args.units c.args.text.now c.loop-at.at c.loop-at.walk c.loop-at.invariant.walk in
    let within : c.loop-at.at ≤ length c.args.text.now = omega (arith, c.loop-at-test.true) in
    let far = near_offset c.args.units c.args.text.now c.loop-at.at c.loop-at.walk c.loop-at.invariant.walk within in
    omega (arith, far, near.line, c.loop-at-test.true, c.requires)

pub step-walk-requires-clause-character : goal.step-walk-requires-clause-character
step-walk-requires-clause-character c =
    let near = near_walk c.args.units c.args.text.now c.loop-at.at c.loop-at.walk c.loop-at.invariant.walk in
    let within : c.loop-at.at ≤ length c.args.text.now = omega (arith, c.loop-at-test.true) in
    let far = near_offset c.args.units c.args.text.now c.loop-at.at c.loop-at.walk c.loop-at.invariant.walk within in
    omega (arith, far, near.character, c.loop-at-test.true, c.requires)

pub loop-at-preserved : goal.loop-at-preserved
loop-at-preserved c =
    let units = c.args.units in
    let text = c.args.text.now in
    let at = c.loop-at.at in
    let w = c.loop-at.walk in
    let next = offset_from_walk units (walk_step units w (get_or text at 0)) (drop (at + 1) text) c.args.place in
    let here = searched units w text at c.args.place c.loop-at-test.true ∙ went_on (is_there units w (get_or text at 0) c.args.place) next (sym c.is_there.ensures ∙ c.if-is_there.false) in
    let step = ap (λ (v : Walk). offset_from_walk units v (drop (at + 1) text) c.args.place) c.step-walk.ensures in
    record {
      search = omega (arith, step, here, c.loop-at.invariant.search);
      walk = c.step-walk.ensures ∙ ap (λ v. walk_step units v (get_or text at 0)) c.loop-at.invariant.walk
          ∙ sym (one_more_step units text at 0 c.loop-at-test.true);
    }
