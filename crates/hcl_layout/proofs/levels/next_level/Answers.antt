use Rattle.std.proofs.Common.{◌≡◌, ◌∙◌, ◌+◌, ◌-◌, ap, arith, get_or}
use Rattle.hcl_layout.specs.Inner.Depths.{with_level}
use Rattle.hcl_layout.proofs.LevelLemmas.{next_levels_sound}
use Rattle.hcl_layout.proofs.levels.next_level.Goals as goal

pub returns-then-before-now-clause-sound : goal.returns-then-before-now-clause-sound
returns-then-before-now-clause-sound c =
    let many : c.args.now + 1 - (c.args.before + 1) ≡ c.args.now - c.args.before = omega arith in
    next_levels_sound c.args.before c.args.now c.args.levels.now c.raise.new.levels c.if-before-now.true c.requires.now c.requires.sound
    (c.raise.ensures ∙ ap (with_level c.args.levels.now (get_or c.args.levels.now c.args.before 0 + 1) (c.args.before + 1)) many)
