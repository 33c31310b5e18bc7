use Rattle.std.proofs.Common.{◌≡◌, ◌<◌, ◌-◌, ◌^◌, max, length}
use Rattle.hcl_layout.specs.Columns.{widest}
use Rattle.hcl_layout.specs.Inner.Laid.{IsAt, walk_of}
use Rattle.hcl_layout.specs.Inner.Walks.{comment_widths_at}
use Rattle.hcl_layout.specs.declared.lines.Columns.TheVariants.{Ahead}
use Rattle.hcl_layout.proofs.lines.Lines.comments_ahead.Given as goal

abbrev pub invariant-loop-ahead : goal.invariant-loop-ahead
invariant-loop-ahead l = record {
  same : widest (comment_widths_at (walk_of l.self) l.tokens.tokens l.self.next) ≡ max l.greatest (widest (comment_widths_at (walk_of l.ahead) l.tokens.tokens l.ahead.next));
  at : IsAt l.tokens.tokens l.ahead;
  ahead : l.ahead.columns ≡ Ahead;
  small : l.greatest < 2 ^ 34;
}

abbrev pub decreases-loop-ahead : goal.decreases-loop-ahead
decreases-loop-ahead l = length l.tokens.tokens - l.ahead.next
