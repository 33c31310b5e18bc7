use Rattle.std.proofs.Common.{◌≡◌, ◌-◌}
use Rattle.hcl_layout.specs.Inner.Depths.{with_level}
use Rattle.hcl_layout.proofs.levels.raise.Given as goal

abbrev pub invariant-loop-depth : goal.invariant-loop-depth
invariant-loop-depth l = with_level l.initial.levels l.level l.from (l.to - l.from) ≡ with_level l.levels l.level l.depth (l.to - l.depth)
