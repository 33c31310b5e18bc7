use Rattle.std.proofs.Common.{◌≡◌, ◌≤◌, ◌-◌, drop, length}
use Rattle.hcl_tokens.specs.Balanced.{max_open}
use Rattle.hcl_layout.specs.Inner.Depths.{BalancedFrom}
use Rattle.hcl_layout.specs.Inner.Rooms.{IsSmall, no_extent, with_lines}
use Rattle.hcl_layout.specs.Lines.{lines}
use Rattle.hcl_layout.proofs.bound.bound.Given as goal

abbrev pub invariant-loop-at : goal.invariant-loop-at
invariant-loop-at l = record {
  same : with_lines 0 (lines l.tokens.tokens) no_extent ≡ with_lines l.depth (lines (drop l.at l.tokens.tokens)) l.extent;
  few : IsSmall l.at l.extent;
  balanced : BalancedFrom l.depth (drop l.at l.tokens.tokens);
  low : l.depth ≤ max_open;
  within : l.at ≤ length l.tokens.tokens;
}

abbrev pub decreases-loop-at : goal.decreases-loop-at
decreases-loop-at l = l.count - l.at
