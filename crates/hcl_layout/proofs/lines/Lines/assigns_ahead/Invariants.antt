use Rattle.std.proofs.Common.{◌≡◌, ◌≤◌, ◌-◌, ◌^◌, max, length}
use Rattle.hcl_layout.specs.Columns.{widest}
use Rattle.hcl_layout.specs.Inner.Laid.{IsAt, walk_of}
use Rattle.hcl_layout.specs.Inner.Walks.{assign_widths_at}
use Rattle.hcl_layout.proofs.lines.Lines.assigns_ahead.Given as goal

abbrev pub invariant-loop-ahead : goal.invariant-loop-ahead
invariant-loop-ahead l = record {
  same : widest (assign_widths_at (walk_of l.self) l.tokens.tokens l.self.next) ≡ max l.greatest (widest (assign_widths_at (walk_of l.ahead) l.tokens.tokens l.ahead.next));
  at : IsAt l.tokens.tokens l.ahead;
  small : l.greatest ≤ 2 ^ 24;
}

abbrev pub decreases-loop-ahead : goal.decreases-loop-ahead
decreases-loop-ahead l = length l.tokens.tokens - l.ahead.next
