use Rattle.std.proofs.Common.{◌≡◌, ◌≤◌, ◌-◌, length}
use Rattle.hcl_layout.specs.Inner.Laid.{IsAt, Stops, gaps_after, left_after, left_on}
use Rattle.hcl_layout.specs.Print.{print}
use Rattle.hcl_layout.specs.declared.lines.Columns.TheVariants.{Ahead}
use Rattle.hcl_layout.proofs.FormatLemmas.{Agrees}
use Rattle.hcl_layout.proofs.print.agrees.Given as goal

abbrev pub invariant-loop-line : goal.invariant-loop-line
invariant-loop-line l = record {
  lines : IsAt l.tokens.tokens l.lines;
  ahead : l.lines.columns ≡ Ahead;
  same : Agrees (print l.tokens.tokens) l.bytes (left_after l.tokens.tokens l.lines) l.at;
  inside : l.at ≤ length l.bytes;
}

abbrev pub decreases-loop-line : goal.decreases-loop-line
decreases-loop-line l = length l.tokens.tokens - l.lines.next

abbrev pub invariant-loop-number : goal.invariant-loop-number
invariant-loop-number l = record {
  stops : Stops l.line l.number l.stop;
  same : Agrees (print l.tokens.tokens) l.bytes (left_on l.tokens.tokens l.line (gaps_after l.tokens.tokens l.lines) l.number) l.at;
  order : l.line.first ≤ l.number;
  inside : l.at ≤ length l.bytes;
}
